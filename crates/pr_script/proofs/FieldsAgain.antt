-- Fields that were read, and what is read of them again.
use Rattle.std.proofs.Common.{◌≡◌, ℕ, Bool, true, false, cond, eqb, List, [], ◌∷◌, ◌++◌, Option, Some, None, Result, Ok, Err, refl, sym, ap, subst, ◌∙◌}
use Rattle.std.specs.List.{AllByRecursion}
use Rattle.std.proofs.lemmas.List.{append-nil}
use Rattle.pr_script.specs.Fields.{◌>>=◌, demand, wanted, skip_spaces, before_space, from_space, split_field, field_at, last_field, is_blank}

-- ---- steps that did not fail

pub bind_ok : {A B : Type 0} (r : Result A ℕ) (f : A → Result B ℕ) (y : B) → (r >>= f) ≡ Ok y → (x : A) × (r ≡ Ok x) × (f x ≡ Ok y)
bind_ok (Ok x) f y e = (x, refl, e)
bind_ok (Err d) f y e = absurd cc

pub demand_ok : {B : Type 0} (n : ℕ) (b : Bool) (f : Bool → Result B ℕ) (y : B) → (demand n b >>= f) ≡ Ok y → (b ≡ true) × (f true ≡ Ok y)
demand_ok n true f y e = (refl, e)
demand_ok n false f y e = absurd cc

pub wanted_ok : {A B : Type 0} (n : ℕ) (o : Option A) (f : A → Result B ℕ) (y : B) → (wanted n o >>= f) ≡ Ok y → (x : A) × (o ≡ Some x) × (f x ≡ Ok y)
wanted_ok n (Some x) f y e = (x, refl, e)
wanted_ok n None f y e = absurd cc

pub guard_ok : {A : Type 0} (b : Bool) (n : ℕ) (x y : A) → cond b (Ok x) (Err n) ≡ Ok y → (b ≡ true) × (x ≡ y)
guard_ok true n x y e = (refl, cc)
guard_ok false n x y e = absurd cc

abbrev done : {A : Type 0} → A → Result A ℕ
done x = Ok x

pub ok_is : {A : Type 0} (x y : A) → done x ≡ done y → x ≡ y
ok_is x y e = cc

-- ---- fields

abbrev pub NoSpace : List ℕ → Type 0
NoSpace f = AllByRecursion (λ b. eqb b 32 ≡ false) f

-- something, without a space
pub data IsField : List ℕ → Type 0 where
  is_field : (b : ℕ) (bs : List ℕ) → eqb b 32 ≡ false → NoSpace bs → IsField (b ∷ bs)

before : (f rest : List ℕ) → NoSpace f → before_space (f ++ 32 ∷ rest) ≡ f
before [] rest h = refl
before (b ∷ f) rest h = rw (h.0) (ap (λ (x : List ℕ). b ∷ x) (before f rest h.1))

from : (f rest : List ℕ) → NoSpace f → from_space (f ++ 32 ∷ rest) ≡ 32 ∷ rest
from [] rest h = refl
from (b ∷ f) rest h = rw (h.0) (from f rest h.1)

before_end : (f : List ℕ) → NoSpace f → before_space f ≡ f
before_end [] h = refl
before_end (b ∷ f) h = rw (h.0) (ap (λ (x : List ℕ). b ∷ x) (before_end f h.1))

from_end : (f : List ℕ) → NoSpace f → from_space f ≡ []
from_end [] h = refl
from_end (b ∷ f) h = rw (h.0) (from_end f h.1)

pub field_again : (f rest : List ℕ) → IsField f → field_at (32 ∷ f ++ 32 ∷ rest) ≡ Ok (f, 32 ∷ rest)
unfolding field_at
field_again _ rest (is_field b bs e h) = rw (e, before bs rest h, from bs rest h) (rw e refl)

pub last_again : (f : List ℕ) → IsField f → last_field (32 ∷ f) ≡ Ok f
unfolding last_field field_at
last_again _ (is_field b bs e h) = rw (e, before_end bs h, from_end bs h) (rw e refl)

head_is : (x b : ℕ) (xs bs : List ℕ) → x ∷ xs ≡ b ∷ bs → x ≡ b
head_is x b xs bs e = cc

front_test : (t : Bool) (x : ℕ) (xs s : List ℕ) (b : ℕ) (bs : List ℕ) → eqb x 32 ≡ t → (s ≡ b ∷ bs → eqb b 32 ≡ false) → cond t s (x ∷ xs) ≡ b ∷ bs → eqb b 32 ≡ false
front_test true x xs s b bs e h c = h c
front_test false x xs s b bs e h c = ap (λ (y : ℕ). eqb y 32) (sym (head_is x b xs bs c)) ∙ e

pub front_no_space : (bytes : List ℕ) (b : ℕ) (bs : List ℕ) → skip_spaces bytes ≡ b ∷ bs → eqb b 32 ≡ false
front_no_space [] b bs e = absurd cc
front_no_space (x ∷ bytes) b bs e = front_test (eqb x 32) x bytes (skip_spaces bytes) b bs refl (front_no_space bytes b bs) e

word_test : (t : Bool) (b : ℕ) (bs : List ℕ) → eqb b 32 ≡ t → NoSpace bs → NoSpace (cond t [] (b ∷ bs))
word_test true b bs e h = tt
word_test false b bs e h = (e, h)

no_space : (bytes : List ℕ) → NoSpace (before_space bytes)
no_space [] = tt
no_space (b ∷ bs) = word_test (eqb b 32) b (before_space bs) refl (no_space bs)

split_is_field : (s : List ℕ) (x : List ℕ × List ℕ) → ((b : ℕ) (bs : List ℕ) → s ≡ b ∷ bs → eqb b 32 ≡ false) → split_field s ≡ Ok x → IsField x.0
split_is_field [] x front e = absurd cc
split_is_field (b ∷ bs) x front e =
    let n : eqb b 32 ≡ false = front b bs refl in
    let f : IsField (before_space (b ∷ bs)) = rw n (is_field b (before_space bs) n (no_space bs)) in
    subst (λ (y : List ℕ × List ℕ). IsField y.0) (ok_is (before_space (b ∷ bs), from_space (b ∷ bs)) x e) f

pub field_is_field : (bytes : List ℕ) (x : List ℕ × List ℕ) → field_at bytes ≡ Ok x → IsField x.0
unfolding field_at
field_is_field bytes x e = split_is_field (skip_spaces bytes) x (front_no_space bytes) e

pub last_is_field : (bytes f : List ℕ) → last_field bytes ≡ Ok f → IsField f
unfolding last_field
last_is_field bytes f e =
    let a = bind_ok (field_at bytes) (λ x. cond (is_blank x.1) (Ok x.0) (Err 3)) f e in
    let g = guard_ok (is_blank a.0.1) 3 a.0.0 f a.2 in
    subst (λ (y : List ℕ). IsField y) g.1 (field_is_field bytes a.0 a.1)

alone : (f : List ℕ) → IsField f → field_at (32 ∷ f) ≡ Ok (f, [])
unfolding field_at
alone _ (is_field b bs e h) = rw (e, before_end bs h, from_end bs h) (rw e refl)

pub field_alone : (f : List ℕ) → IsField f → field_at (32 ∷ (f ++ [])) ≡ Ok (f, [])
field_alone f h = ap (λ (x : List ℕ). field_at (32 ∷ x)) (append-nil f) ∙ alone f h
