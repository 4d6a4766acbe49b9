-- Lists that change place by place.
use Rattle.std.proofs.Common.{◌≡◌, ℕ, ◌≤◌, ◌<◌, ◌+◌, List, length, get_or, set, sym, ◌∙◌, ap, subst, arith, inl, inr, ◌≢◌}
use Rattle.std.specs.Prelude.{◌⊎◌}
use Rattle.std.proofs.lemmas.List.{get_or_default, get_or-set_same, get_or-set_other}
use Rattle.std.proofs.lemmas.Bool.Decides.{nat_tests}

pub below_or : (a n : ℕ) → a < n + 1 → (a < n) ⊎ (a ≡ n)
below_or a n lt = grind (arith, nat_tests)

-- one place more is as it is to be
pub done_more : {A : Type 0} (C : ℕ → A → A → Type 0) (items first : List A) (d : A) (n : ℕ) (old new : A) → n < length items → old ≡ get_or items n old → C n new old → ((k : ℕ) → k < n → C k (get_or items k d) (get_or first k d)) → ((k : ℕ) → n ≤ k → get_or items k d ≡ get_or first k d) → (k : ℕ) → k < n + 1 → C k (get_or (set items n new) k d) (get_or first k d)
done_more C items first d n old new within is here done rest k lt = elim (below_or k n lt) [
  | inl less ↦
      let other : k ≢ n = omega arith in
      subst (λ x. C k x (get_or first k d)) (sym (get_or-set_other items n k new d other)) (done k less)
  | inr same ↦
      let now : get_or (set items n new) k d ≡ new = ap (λ i. get_or (set items n new) i d) same ∙ get_or-set_same items n new d within in
      let was : get_or first k d ≡ old = sym (rest k (omega (arith, same))) ∙ ap (λ i. get_or items i d) same ∙ sym (is ∙ get_or_default items n old d within) in
      subst (λ x. C k x (get_or first k d)) (sym now) (subst (λ y. C k new y) (sym was) (subst (λ i. C i new old) (sym same) here))
]

-- one place more that stays
pub done_same : {A : Type 0} (C : ℕ → A → A → Type 0) (items first : List A) (d : A) (n : ℕ) → ((x : A) → C n x x) → ((k : ℕ) → k < n → C k (get_or items k d) (get_or first k d)) → ((k : ℕ) → n ≤ k → get_or items k d ≡ get_or first k d) → (k : ℕ) → k < n + 1 → C k (get_or items k d) (get_or first k d)
done_same C items first d n here done rest k lt = elim (below_or k n lt) [
  | inl less ↦ done k less
  | inr same ↦ subst (λ x. C k x (get_or first k d)) (sym (rest k (omega (arith, same)))) (subst (λ i. C i (get_or first k d) (get_or first k d)) (sym same) (here (get_or first k d)))
]

pub rest_more : {A : Type 0} (items first : List A) (d : A) (n : ℕ) (new : A) → ((k : ℕ) → n ≤ k → get_or items k d ≡ get_or first k d) → (k : ℕ) → n + 1 ≤ k → get_or (set items n new) k d ≡ get_or first k d
rest_more items first d n new rest k le =
    let other : k ≢ n = omega arith in
    get_or-set_other items n k new d other ∙ rest k (omega arith)
