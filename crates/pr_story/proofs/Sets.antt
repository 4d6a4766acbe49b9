-- Sets of names that one condition gives are one list.
use Rattle.std.proofs.Common.{◌≡◌, ℕ, List, [], ◌∷◌, refl, sym, arith, nat_eq}
use Rattle.std.specs.Prelude.{true, false, Bool, nat_lt, ◌&&◌, ◌||◌}
use Rattle.std.proofs.lemmas.Bool.Decides.{nat_tests}
use Rattle.pr_names.specs.Order.{name_lt}
use Rattle.pr_names.specs.Span.{Span}
use Rattle.pr_sets.specs.Spans.{has, IsSetOf}
use Rattle.pr_sets.proofs.Same.{same_list}

both_false : (x y : ℕ) (p q : Bool) → (nat_lt x y || (nat_eq x y && p)) ≡ false → (nat_lt y x || (nat_eq y x && q)) ≡ false → (x ≡ y) × (p ≡ false) × (q ≡ false)
both_false x y p q a b = grind (arith, nat_tests)

-- of two names one comes before the other, or they are one
pub name_order : (a b : List ℕ) → name_lt a b ≡ false → name_lt b a ≡ false → a ≡ b
unfolding name_lt
name_order [] [] p q = refl
name_order [] (y ∷ b) p q = cc
name_order (x ∷ a) [] p q = cc
name_order (x ∷ a) (y ∷ b) p q =
    let t : (x ≡ y) × (name_lt a b ≡ false) × (name_lt b a ≡ false) = both_false x y (name_lt a b) (name_lt b a) p q in
    let rest : a ≡ b = name_order a b t.1 t.2 in
    let first : x ≡ y = t.0 in
    cc

iff_same : (a b : Bool) → (a ≡ true → b ≡ true) → (b ≡ true → a ≡ true) → a ≡ b
iff_same true b f g = sym (f refl)
iff_same false true f g = g refl
iff_same false false f g = refl

pub one_set : (a b : List Span) (P : List ℕ → Type 0) → IsSetOf a P → IsSetOf b P → a ≡ b
one_set a b P p q = same_list a b p.one_list q.one_list (λ o name. iff_same (has a o) (has b o) (λ e. q.has_them o name (p.no_others o name e)) (λ e. p.has_them o name (q.no_others o name e)))
