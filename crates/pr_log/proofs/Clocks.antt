-- The order of clocks as keys of a map.
use Rattle.std.proofs.Common.{◌≡◌, ℕ, ◌≤◌, ◌<◌, Option, None, Some, Bool, true, false, cond, refl, ◌∙◌, ap, arith, nat_eq}
use Rattle.std.specs.Prelude.{◌⊎◌}
use Rattle.std.specs.Option.{IsSome}
use Rattle.std.specs.declared.cmp.Ordering.TheVariants.{Less}
use Rattle.std.specs.Ordering.{is_eq, is_lt, is_gt, nat_cmp}
use Rattle.std.proofs.lemmas.Bool.Decides.{nat_tests}

pub eq_nat : (x y : ℕ) → is_eq (nat_cmp x y) ≡ nat_eq x y
eq_nat x y = grind (arith, nat_tests)

pub less_key : (x y : ℕ) → x < y → nat_cmp x y ≡ Less
less_key x y lt = grind (arith, nat_tests)

pub up_to_key : (x y : ℕ) → x ≤ y → is_gt (nat_cmp x y) ≡ false
up_to_key x y le = grind (arith, nat_tests)

pub key_up_to : (x y : ℕ) → is_gt (nat_cmp x y) ≡ false → x ≤ y
key_up_to x y h = grind (arith, nat_tests)

pub key_not_less : (x y : ℕ) → is_lt (nat_cmp x y) ≡ false → y ≤ x
key_not_less x y h = grind (arith, nat_tests)

-- a clock is this one, or another
pub this_or : (x y : ℕ) → (x ≡ y) ⊎ (is_eq (nat_cmp x y) ≡ false)
this_or x y = grind (arith, nat_tests)

pub this_key : (x y : ℕ) → x ≡ y → is_eq (nat_cmp x y) ≡ true
this_key x y e = grind (arith, nat_tests)

pub other_key : (x y : ℕ) → ¬ (x ≡ y) → is_eq (nat_cmp x y) ≡ false
other_key x y h = grind (arith, nat_tests)

pub less_or : (a b : ℕ) → (a < b) ⊎ (b ≤ a)
less_or a b = grind (arith, nat_tests)

-- what is left where a key was taken out
pub taken_out : {X : Type 0} (k q : ℕ) (f g : Option X) → g ≡ cond (is_eq (nat_cmp k q)) None f → ¬ (k ≡ q) → g ≡ f
taken_out k q f g out other = out ∙ ap (λ b. cond b None f) (other_key k q other)

pub out_or_none : {X : Type 0} (k q : ℕ) (f g : Option X) → g ≡ cond (is_eq (nat_cmp k q)) None f → f ≡ None → g ≡ None
out_or_none {X = X} k q f g out none = out ∙ ap (λ r. cond (is_eq (nat_cmp k q)) None r) none ∙ either (is_eq (nat_cmp k q)) None
  where
    either : (b : Bool) (x : Option X) → cond b x x ≡ x
    either true x = refl
    either false x = refl

-- what was put in at a key, and what was there at the others
pub put_in : {X : Type 0} (k q : ℕ) (f g : Option X) (x : X) → g ≡ cond (is_eq (nat_cmp k q)) (Some x) f → ¬ (k ≡ q) → g ≡ f
put_in k q f g x in_ other = in_ ∙ ap (λ b. cond b (Some x) f) (other_key k q other)

pub put_here : {X : Type 0} (k q : ℕ) (f g : Option X) (x : X) → g ≡ cond (is_eq (nat_cmp k q)) (Some x) f → k ≡ q → g ≡ Some x
put_here k q f g x in_ here = in_ ∙ ap (λ b. cond b (Some x) f) (this_key k q here)

pub none_of : {X : Type 0} (x : Option X) → (IsSome x → ⊥) → x ≡ None
none_of None h = refl
none_of (Some y) h = absurd (h refl)

pub is_some : {X : Type 0} (x : Option X) (y : X) → x ≡ Some y → IsSome x
is_some None y h = cc
is_some (Some z) y h = refl

pub same_some : {A : Type 0} (x y : A) → Some x ≡ Some y → x ≡ y
same_some x y e = cc

pub some_none : {A : Type 0} (x : A) → Some x ≡ None → ⊥
some_none x e = cc
