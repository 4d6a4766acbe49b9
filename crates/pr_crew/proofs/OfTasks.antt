-- The passes of a phase's jobs, task by task.
use Rattle.std.proofs.Common.{◌≡◌, ◌⊎◌, ℕ, zero, suc, ◌+◌, ◌<◌, ◌≤◌, List, [], ◌∷◌, ◌++◌, Contains, inl, inr, refl, sym, ap, subst, length, get_or, arith}
use Rattle.std.specs.Prelude.{AllPairs, Some, slice_get}
use Rattle.std.specs.List.{flat_map, range_with_len}
use Rattle.std.proofs.lemmas.List.Elements.{Contains-append_cases, Contains-append_left, Contains-append_right}
use Rattle.std.proofs.lemmas.List.FromFn.{get_or-range_with_len, length-range_with_len}
use Rattle.pr_merge.proofs.Orders.{pairs_of_map}
use Rattle.pr_story.proofs.Sorted.{contains_none, first_or_later, pairs_first, pairs_later}
use Rattle.pr_crew.specs.declared.task.Task.{Task}
use Rattle.pr_crew.specs.Making.{NodePass}
use Rattle.pr_crew.specs.Tasks.{numbers_of, passes_at, passes_of}
use Rattle.pr_crew.proofs.Seen.{some_same}

-- there is an item at the place, or the list ends before it
pub at_or_past : {X : Type 0} (xs : List X) (k : ℕ) → ((x : X) × (slice_get xs k ≡ Some x)) ⊎ (length xs ≤ k)
at_or_past [] k = inr (omega arith)
at_or_past (x ∷ xs) zero = inl (x, refl)
at_or_past (x ∷ xs) (suc k) = elim (at_or_past xs k) [ inl found ↦ inl found | inr past ↦ inr (omega arith) ]

-- ---- pairs of two lists

pairs_right : {X : Type 0} (R : X → X → Type 0) (xs ys : List X) → AllPairs R (xs ++ ys) → AllPairs R ys
pairs_right R [] ys all = all
pairs_right R (x ∷ xs) ys all = pairs_right R xs ys (pairs_later R x (xs ++ ys) all)

pairs_across : {X : Type 0} (R : X → X → Type 0) (xs ys : List X) → AllPairs R (xs ++ ys) → (x y : X) → Contains xs x → Contains ys y → R x y
pairs_across R [] ys all x y has there = absurd (contains_none x has)
pairs_across R (z ∷ xs) ys all x y has there = elim (first_or_later z xs x has) [
  | inl is ↦ subst (λ w. R w y) is (pairs_first R z (xs ++ ys) y all (Contains-append_right xs ys y there))
  | inr later ↦ pairs_across R xs ys (pairs_later R z (xs ++ ys) all) x y later there
]

range_rises : (a n : ℕ) → AllPairs (λ x y. x < y) (range_with_len a n)
range_rises a n i j d less lt =
    let l : length (range_with_len a n) ≡ n = length-range_with_len a n in
    let x : get_or (range_with_len a n) i d ≡ a + i = get_or-range_with_len a n i d (omega arith) in
    let y : get_or (range_with_len a n) j d ≡ a + j = get_or-range_with_len a n j d (omega arith) in
    omega arith

abbrev pub IsBelow : NodePass → NodePass → Type 0
IsBelow p q = p.number < q.number

-- passes that were numbered in turn rise
pub numbers_rise : (a n : ℕ) (ps : List NodePass) → numbers_of ps ≡ range_with_len a n → AllPairs IsBelow ps
numbers_rise a n ps is = pairs_of_map (λ (p : NodePass). p.number) (λ x y. x < y) ps (subst (λ (ks : List ℕ). AllPairs (λ x y. x < y) ks) (sym is) (range_rises a n))

-- ---- tasks and their passes

module _ {W : Type 0} (n : ℕ) where
  -- each pass is a task's
  pub of_task : (us : List (Task W)) (q : NodePass) → Contains (passes_at us n) q → (k : ℕ) × (t : Task W) × (slice_get us k ≡ Some t) × Contains (passes_of n t) q
  of_task [] q has = absurd (contains_none q has)
  of_task (u ∷ us) q has = elim (Contains-append_cases (passes_of n u) (flat_map (passes_of n) us) q has) [
    | inl here ↦ (0, u, refl, here)
    | inr later ↦ (let found = of_task us q later in (suc found.0, found.1, found.2, found.3))
  ]

  pub in_task : (us : List (Task W)) (k : ℕ) (t : Task W) (q : NodePass) → slice_get us k ≡ Some t → Contains (passes_of n t) q → Contains (passes_at us n) q
  in_task [] k t q is has = absurd (cc)
  in_task (u ∷ us) zero t q is has = Contains-append_left (passes_of n u) (flat_map (passes_of n) us) q (subst (λ (v : Task W). Contains (passes_of n v) q) (sym (some_same u t is)) has)
  in_task (u ∷ us) (suc k) t q is has = Contains-append_right (passes_of n u) (flat_map (passes_of n) us) q (in_task us k t q is has)

  -- the tasks of two passes of one number are one
  pub one_task : (us : List (Task W)) → AllPairs IsBelow (passes_at us n) → (k m : ℕ) (t u : Task W) (p q : NodePass) → slice_get us k ≡ Some t → slice_get us m ≡ Some u
      → Contains (passes_of n t) p → Contains (passes_of n u) q → p.number ≡ q.number → k ≡ m
  one_task [] all k m t u p q k_is m_is has there same = absurd (cc)
  one_task (v ∷ us) all zero zero t u p q k_is m_is has there same = refl
  one_task (v ∷ us) all zero (suc m) t u p q k_is m_is has there same =
      let here : Contains (passes_of n v) p = subst (λ (w : Task W). Contains (passes_of n w) p) (sym (some_same v t k_is)) has in
      let lt : p.number < q.number = pairs_across IsBelow (passes_of n v) (flat_map (passes_of n) us) all p q here (in_task us m u q m_is there) in
      absurd (omega arith)
  one_task (v ∷ us) all (suc k) zero t u p q k_is m_is has there same =
      let here : Contains (passes_of n v) q = subst (λ (w : Task W). Contains (passes_of n w) q) (sym (some_same v u m_is)) there in
      let lt : q.number < p.number = pairs_across IsBelow (passes_of n v) (flat_map (passes_of n) us) all q p here (in_task us k t p k_is has) in
      absurd (omega arith)
  one_task (v ∷ us) all (suc k) (suc m) t u p q k_is m_is has there same =
      ap (λ (i : ℕ). suc i) (one_task us (pairs_right IsBelow (passes_of n v) (flat_map (passes_of n) us) all) k m t u p q k_is m_is has there same)
