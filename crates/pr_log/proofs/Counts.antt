-- How many writes are known, where one is added.
use Rattle.std.proofs.Common.{Result, Ok, Err, ◌≡◌, ℕ, ◌≤◌, ◌<◌, ◌+◌, zero, suc, List, [], ◌∷◌, length, get_or, set, Bool, true, false, refl, sym, ap, subst, arith, nat_lt, inl, inr, ◌≢◌}
use Rattle.std.specs.Prelude.{OnOk}
use Rattle.std.specs.declared.cmp.Ordering.{Ordering}
use Rattle.std.specs.declared.cmp.Ordering.TheVariants.{Less, Equal, Greater}
use Rattle.std.specs.Ordering.{match_ordering, nat_cmp}
use Rattle.std.specs.BTreeMap.{insert_entry}
use Rattle.std.proofs.lemmas.List.{get_or-set_same, get_or-set_other}
use Rattle.pr_vectors.specs.Vector.{clock_of}
use Rattle.pr_inval.specs.declared.write_rec.WriteRec.{WriteRec}
use Rattle.pr_log.specs.Known.{count_above, row_of, total, uncovered}
use Rattle.pr_log.proofs.Merge.{count_more, one}
use Rattle.pr_log.proofs.Places.{at_place, this_or_other}

one_most : (b : Bool) → one b ≤ 1
one_most true = omega arith
one_most false = omega arith

-- an entry more
pub count_insert : (es : List (ℕ × WriteRec)) (k : ℕ) (v : WriteRec) (c : ℕ) → count_above (insert_entry nat_cmp es k v) c ≤ count_above es c + 1
count_insert [] k v c = omega (arith, count_more (k, v) [] c, one_most (nat_lt c k))
count_insert (e ∷ es) k v c = placed (nat_cmp k e.0) (count_insert es k v c)
  where
    placed : (o : Ordering) → count_above (insert_entry nat_cmp es k v) c ≤ count_above es c + 1 → count_above (match_ordering o ((k, v) ∷ e ∷ es) ((e.0, v) ∷ es) (e ∷ insert_entry nat_cmp es k v)) c ≤ count_above (e ∷ es) c + 1
    placed Less so_far = omega (arith, count_more (k, v) (e ∷ es) c, one_most (nat_lt c k))
    placed Equal so_far = omega (arith, count_more (e.0, v) es c, count_more e es c)
    placed Greater so_far = omega (arith, count_more e (insert_entry nat_cmp es k v) c, count_more e es c, so_far)

pub total_most : (f g : ℕ → ℕ) (n : ℕ) → ((k : ℕ) → k < n → g k ≤ f k) → total g n ≤ total f n
unfolding total
total_most f g zero each = omega arith
total_most f g (suc n) each = omega (arith, total_most f g n (λ k lt. each k (omega (arith, lt))), each n (omega arith))

-- no node has more writes
pub uncovered_most : (a b : List (List (ℕ × WriteRec))) → ((n : ℕ) → n < 32 → (c : ℕ) → count_above (row_of b n) c ≤ count_above (row_of a n) c) → (pos : List ℕ) → uncovered b pos ≤ uncovered a pos
uncovered_most a b each pos =
    total_most (λ k. count_above (row_of a k) (clock_of pos k)) (λ k. count_above (row_of b k) (clock_of pos k)) 32 (λ k lt. each k lt (clock_of pos k))

-- one node has one write more
pub total_more : (f g : ℕ → ℕ) (n at : ℕ) → g at ≤ f at + 1 → ((k : ℕ) → ¬ (k ≡ at) → g k ≤ f k) → total g n ≤ total f n + 1
unfolding total
total_more f g zero at more each = omega arith
total_more f g (suc n) at more each = elim (this_or_other n at) [
  | inl here ↦ omega (arith, total_same n (λ k lt. each k (λ e. omega (arith, e, lt, here))), subst (λ k. g k ≤ f k + 1) (sym here) more)
  | inr other ↦ omega (arith, total_more f g n at more each, each n other)
]
  where
    total_same : (n : ℕ) → ((k : ℕ) → k < n → g k ≤ f k) → total g n ≤ total f n
    total_same zero each = omega arith
    total_same (suc n) each = omega (arith, total_same n (λ k lt. each k (omega (arith, lt))), each n (omega arith))

pub uncovered_more : (rows : List (List (ℕ × WriteRec))) (n : ℕ) (old new : List (ℕ × WriteRec)) → n < length rows → old ≡ row_of rows n → ((c : ℕ) → count_above new c ≤ count_above old c + 1) → (pos : List ℕ) → uncovered (set rows n new) pos ≤ uncovered rows pos + 1
uncovered_more rows n old new within is more pos =
    total_more (λ k. count_above (row_of rows k) (clock_of pos k)) (λ k. count_above (row_of (set rows n new) k) (clock_of pos k)) 32 n
    (subst (λ (l : List (ℕ × WriteRec)). count_above l (clock_of pos n) ≤ count_above (row_of rows n) (clock_of pos n) + 1) (sym (get_or-set_same rows n new [] within))
    (subst (λ (l : List (ℕ × WriteRec)). count_above new (clock_of pos n) ≤ count_above l (clock_of pos n) + 1) is (more (clock_of pos n))))
    (λ k other. let ne : k ≢ n = other in subst (λ (l : List (ℕ × WriteRec)). count_above l (clock_of pos k) ≤ count_above (row_of rows k) (clock_of pos k)) (sym (get_or-set_other rows n k new [] ne)) (omega arith))

-- no write at all
pub uncovered_none : (rows : List (List (ℕ × WriteRec))) → ((n : ℕ) → row_of rows n ≡ []) → (pos : List ℕ) → uncovered rows pos ≡ 0
unfolding total
uncovered_none rows none pos = nothing 32
  where
    nothing : (n : ℕ) → total (λ k. count_above (row_of rows k) (clock_of pos k)) n ≡ 0
    nothing zero = refl
    nothing (suc n) = omega (arith, nothing n, ap (λ (l : List (ℕ × WriteRec)). count_above l (clock_of pos n)) (none n))

pub few_added : {E : Type 0} (r : Result (Unit {0}) E) (rows : List (List (ℕ × WriteRec))) (n : ℕ) (old new : List (ℕ × WriteRec)) → n < length rows → old ≡ get_or rows n old → OnOk r ((c : ℕ) → count_above new c ≤ count_above old c + 1) → OnOk r ((pos : List ℕ) → uncovered (set rows n new) pos ≤ uncovered rows pos + 1)
few_added (Ok u) rows n old new within is more = uncovered_more rows n old new within (at_place rows n old [] is within) more
few_added (Err e) rows n old new within is more = tt
