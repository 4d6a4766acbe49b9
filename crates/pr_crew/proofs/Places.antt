-- Lists by place.
use Rattle.std.proofs.Common.{◌≡◌, ◌⊎◌, ℕ, zero, suc, ◌+◌, ◌<◌, ◌≤◌, List, [], ◌∷◌, ◌++◌, inl, inr, add-one, refl, sym, ◌∙◌, ap, subst, length, set, arith}
use Rattle.std.specs.Prelude.{All, Some, drop, reverse, slice_get, sum_by, take}
use Rattle.std.proofs.lemmas.List.{length-drop, length-reverse, reverse-append, reverse-reverse}
use Rattle.std.proofs.lemmas.List.Elements.{All-head, All-tail}
use Rattle.std.proofs.lemmas.List.Sums.{sum_by-cons}
use mathlib.Core.List.{head-eq_of_cons-eq, tail-eq_of_cons-eq}

module _ {X : Type 0} where
  pub get_push : (xs : List X) (x : X) (k : ℕ) (y : X) → slice_get (xs ++ x ∷ []) k ≡ Some y → (slice_get xs k ≡ Some y) ⊎ ((k ≡ length xs) × (x ≡ y))
  get_push [] x zero y is = inr (refl, cc)
  get_push [] x (suc k) y is = absurd (cc)
  get_push (z ∷ xs) x zero y is = inl is
  get_push (z ∷ xs) x (suc k) y is = elim (get_push xs x k y is) [
    | inl before ↦ inl before
    | inr last ↦ inr (ap suc last.0, last.1)
  ]

  pub get_set_same : (xs : List X) (i : ℕ) (x : X) → i < length xs → slice_get (set xs i x) i ≡ Some x
  get_set_same [] i x lt = absurd (omega arith)
  get_set_same (z ∷ xs) zero x lt = refl
  get_set_same (z ∷ xs) (suc i) x lt = get_set_same xs i x (omega arith)

  pub get_set_other : (xs : List X) (i j : ℕ) (x : X) → (j ≡ i → ⊥) → slice_get (set xs i x) j ≡ slice_get xs j
  get_set_other [] i j x other = refl
  get_set_other (z ∷ xs) zero zero x other = absurd (other refl)
  get_set_other (z ∷ xs) zero (suc j) x other = refl
  get_set_other (z ∷ xs) (suc i) zero x other = refl
  get_set_other (z ∷ xs) (suc i) (suc j) x other = get_set_other xs i j x (λ is. other (ap suc is))

  -- what holds of all holds of the one at a place
  pub all_at_place : (P : X → Type 0) (xs : List X) (k : ℕ) (x : X) → All P xs → slice_get xs k ≡ Some x → P x
  all_at_place P [] k x all is = absurd (cc)
  all_at_place P (y ∷ xs) zero x all is = let same : y ≡ x = cc in subst (λ z. P z) same (All-head P y xs all)
  all_at_place P (y ∷ xs) (suc k) x all is = all_at_place P xs k x (All-tail P y xs all) is

  pub sum_push : (f : X → ℕ) (xs : List X) (x : X) → sum_by f (xs ++ x ∷ []) ≡ sum_by f xs + f x
  sum_push f [] x = omega arith
  sum_push f (y ∷ xs) x =
      let e = sum_push f xs x in
      let all : sum_by f ((y ∷ xs) ++ x ∷ []) ≡ f y + sum_by f (xs ++ x ∷ []) = sum_by-cons f y (xs ++ x ∷ []) in
      let old : sum_by f (y ∷ xs) ≡ f y + sum_by f xs = sum_by-cons f y xs in
      omega (arith, e, all, old)

  take_suc : (xs : List X) (i : ℕ) (x : X) → slice_get xs i ≡ Some x → take (suc i) xs ≡ take i xs ++ x ∷ []
  take_suc [] i x is = absurd (cc)
  take_suc (y ∷ xs) zero x is = let e : y ≡ x = cc in ap (λ z. z ∷ []) e
  take_suc (y ∷ xs) (suc i) x is = ap (λ l. y ∷ l) (take_suc xs i x is)

  pub take_push : (xs : List X) (i : ℕ) (x : X) → slice_get xs i ≡ Some x → take (i + 1) xs ≡ take i xs ++ x ∷ []
  take_push xs i x is = ap (λ k. take k xs) (add-one i) ∙ take_suc xs i x is

  drop_suc : (xs : List X) (i : ℕ) (x : X) (rest : List X) → drop i xs ≡ x ∷ rest → (slice_get xs i ≡ Some x) × (rest ≡ drop (suc i) xs) × (i < length xs)
  drop_suc [] zero x rest is = absurd (cc)
  drop_suc [] (suc i) x rest is = absurd (cc)
  drop_suc (y ∷ xs) zero x rest is = let e : y ≡ x = head-eq_of_cons-eq is in (ap (λ z. Some z) e, sym (tail-eq_of_cons-eq is), omega arith)
  drop_suc (y ∷ xs) (suc i) x rest is = let e = drop_suc xs i x rest is in let lt = e.2 in (e.0, e.1, omega (arith, lt))

  drop_here : (xs : List X) (i : ℕ) (x : X) (rest : List X) → drop i xs ≡ x ∷ rest → (slice_get xs i ≡ Some x) × (rest ≡ drop (i + 1) xs) × (i < length xs)
  drop_here xs i x rest is = let e = drop_suc xs i x rest is in (e.0, e.1 ∙ ap (λ k. drop k xs) (sym (add-one i)), e.2)

  -- where nothing is left, all were taken
  pub none_left : (xs : List X) (i : ℕ) → length (reverse (drop i xs)) ≡ 0 → i ≤ length xs → i ≡ length xs
  none_left xs i none le =
      let same = length-reverse (drop i xs) in
      let few = length-drop i xs in
      omega (arith, none, le, same, few)

  pub nothing_left : (left : List X) → length (reverse left) ≡ 0 → left ≡ []
  nothing_left [] none = refl
  nothing_left (x ∷ left) none = let same = length-reverse (x ∷ left) in absurd (omega (arith, none, same))

  -- the last item of the reversed rest is the next one
  pub popped : (xs : List X) (i : ℕ) (left : List X) (x : X) → reverse (drop i xs) ≡ left ++ x ∷ []
      → (slice_get xs i ≡ Some x) × (left ≡ reverse (drop (i + 1) xs)) × (i < length xs) × (drop i xs ≡ x ∷ drop (i + 1) xs)
  popped xs i left x is =
      let all : drop i xs ≡ x ∷ reverse left = sym (reverse-reverse (drop i xs)) ∙ ap (λ l. reverse l) is ∙ reverse-append left (x ∷ []) in
      let e = drop_here xs i x (reverse left) all in
      (e.0, sym (reverse-reverse left) ∙ ap (λ l. reverse l) e.1, e.2, all ∙ ap (λ l. x ∷ l) e.1)
