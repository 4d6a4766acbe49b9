-- How far the conflicts have been looked for, from the last mark on.
use Rattle.std.proofs.Common.{◌≡◌, ◌∙◌, ◌++◌, ◌≤◌, ◌<◌, ◌+◌, ◌-◌, ℕ, zero, suc, List, [], ◌∷◌, Bool, false, cond, refl, sym, ap, subst, filter, length, get_or, drop, inl, inr, arith}
use Rattle.std.specs.Prelude.{Contains}
use Rattle.std.proofs.lemmas.List.{append-nil, drop_all, drop_more, length_push}
use Rattle.std.proofs.lemmas.List.Elements.{Contains-get_or}
use Rattle.pr_stamps.specs.Marks.{is_conflict}
use Rattle.pr_stamps.specs.Point.{Point}
use Rattle.pr_stamps.specs.declared.mark.Mark.{Mark}
use Rattle.pr_marks.specs.Conflicting.{IsFree}
use Rattle.pr_marks.proofs.FromLast.{left, pairs_back, pairs_to}
use Rattle.pr_marks.proofs.Placed.{less_or}

-- of the marks from a place on all pairs are found, and of those that are left no mark before it conflicts with others
pub record IsLooked (marks : List Mark) (count : ℕ) (later : List Mark) (pairs : List (Point × Point)) : Type 0 where
  pub within : count ≤ length marks
  pub found : pairs ≡ pairs_back (drop count marks)
  pub same : (i : ℕ) (d : Mark) → i < count → filter (is_conflict (get_or marks i d)) later ≡ filter (is_conflict (get_or marks i d)) (left (drop count marks))

pub begun : (marks : List Mark) → IsLooked marks (length marks) [] []
begun marks = record {
  within = omega arith;
  found = sym (ap pairs_back (drop_all (length marks) marks (omega arith)));
  same = λ i d lt. sym (ap (λ l. filter (is_conflict (get_or marks i d)) (left l)) (drop_all (length marks) marks (omega arith)));
}

-- one mark more
pub turned : (marks later : List Mark) (pairs : List (Point × Point)) (count at : ℕ) (mark : Mark) → IsLooked marks count later pairs → count ≡ at + 1 → mark ≡ get_or marks at mark → IsLooked marks at (filter (is_conflict mark) later ++ mark ∷ []) (pairs ++ pairs_to mark (filter (is_conflict mark) later))
turned marks later pairs count at mark so_far is here = record {
  within = omega (arith, so_far.within, is);
  found = (λ i. so_far.found i ++ pairs_to mark (kept i)) ∙ ap (λ n. pairs_back (drop n marks) ++ pairs_to mark (filter (is_conflict mark) (left (drop n marks)))) is ∙ sym (ap pairs_back split);
  same = λ i d lt. ap (λ l. filter (is_conflict (get_or marks i d)) (l ++ mark ∷ [])) (kept ∙ ap (λ n. filter (is_conflict mark) (left (drop n marks))) is) ∙ sym (ap (λ l. filter (is_conflict (get_or marks i d)) (left l)) split);
}
  where
    split : drop at marks ≡ mark ∷ drop (at + 1) marks
    split = drop_more marks at mark (omega (arith, so_far.within, is)) ∙ ap (λ m. m ∷ drop (at + 1) marks) (sym here)

    kept : filter (is_conflict mark) later ≡ filter (is_conflict mark) (left (drop count marks))
    kept = ap (λ m. filter (is_conflict m) later) here ∙ so_far.same at mark (omega (arith, is)) ∙ ap (λ m. filter (is_conflict m) (left (drop count marks))) (sym here)

-- a mark that no mark conflicts with is passed over
passed_one : (marks later : List Mark) (pairs : List (Point × Point)) (at : ℕ) (d : Mark) → IsLooked marks (at + 1) later pairs → ((x : Mark) → Contains marks x → filter (is_conflict x) later ≡ []) → IsFree marks (get_or marks at d) → IsLooked marks at later pairs
passed_one marks later pairs at d so_far none free = record {
  within = omega (arith, so_far.within);
  found = so_far.found ∙ sym (append-nil (pairs_back (drop (at + 1) marks))) ∙ ap (λ l. pairs_back (drop (at + 1) marks) ++ pairs_to (get_or marks at d) l) (sym nothing) ∙ sym (ap pairs_back split);
  same = λ i e lt.
      let c = Contains-get_or marks i e (omega (arith, lt, within)) in
      none (get_or marks i e) c
      ∙ sym (ap (λ l. filter (is_conflict (get_or marks i e)) (left l)) split ∙ ap (λ l. filter (is_conflict (get_or marks i e)) (l ++ get_or marks at d ∷ [])) nothing ∙ alone (is_conflict (get_or marks i e) (get_or marks at d)) (free (get_or marks i e) c));
}
  where
    within : at < length marks
    within = omega (arith, so_far.within)

    split : drop at marks ≡ get_or marks at d ∷ drop (at + 1) marks
    split = drop_more marks at d within

    nothing : filter (is_conflict (get_or marks at d)) (left (drop (at + 1) marks)) ≡ []
    nothing = sym (so_far.same at d (omega arith)) ∙ none (get_or marks at d) (Contains-get_or marks at d within)

    alone : (b : Bool) → b ≡ false → cond b (get_or marks at d ∷ []) [] ≡ []
    alone b e = rw e refl

passed_all : (n : ℕ) (marks later : List Mark) (pairs : List (Point × Point)) (to : ℕ) (d : Mark) → IsLooked marks (to + n) later pairs → ((x : Mark) → Contains marks x → filter (is_conflict x) later ≡ []) → ((k : ℕ) → to ≤ k → k < to + n → IsFree marks (get_or marks k d)) → IsLooked marks to later pairs
passed_all zero marks later pairs to d so_far none free = let same : to + 0 ≡ to = omega arith in subst (λ k. IsLooked marks k later pairs) same so_far
passed_all (suc n) marks later pairs to d so_far none free =
    let same : to + suc n ≡ to + n + 1 = omega arith in
    passed_all n marks later pairs to d
    (passed_one marks later pairs (to + n) d (subst (λ k. IsLooked marks k later pairs) same so_far) none (free (to + n) (omega arith) (omega arith)))
    none
    (λ k from lt. free k from (omega (arith, lt)))

-- the marks that are passed over have no conflicts
pub passed : (marks kept : List Mark) (pairs : List (Point × Point)) (at to len : ℕ) (mark : Mark) → IsLooked marks at (kept ++ mark ∷ []) pairs → mark ≡ get_or marks at mark → at < length marks → len ≡ length (kept ++ mark ∷ []) → to ≤ at → (to < at → len ≤ 1) → ((k : ℕ) (d : Mark) → to < at → to ≤ k → k ≤ at → IsFree marks (get_or marks k d)) → IsLooked marks to (kept ++ mark ∷ []) pairs
passed marks kept pairs at to len mark so_far here within is most few free = elim (less_or to at) [
  | inr from ↦ let same : at ≡ to = omega (arith, most, from) in subst (λ k. IsLooked marks k (kept ++ mark ∷ []) pairs) same so_far
  | inl less ↦
      let whole : at ≡ to + (at - to) = omega (arith, less) in
      passed_all (at - to) marks (kept ++ mark ∷ []) pairs to mark (subst (λ k. IsLooked marks k (kept ++ mark ∷ []) pairs) whole so_far)
      (λ x c. ap (λ l. filter (is_conflict x) (l ++ mark ∷ [])) (nothing kept (omega (arith, few less, is, length_push kept mark))) ∙ alone (is_conflict x mark) (subst (λ m. is_conflict x m ≡ false) (sym here) (free at mark less most (omega arith) x c)))
      (λ k from lt. free k mark less from (omega (arith, lt, whole)))
]
  where
    nothing : (l : List Mark) → length l ≤ 0 → l ≡ []
    nothing [] le = refl
    nothing (m ∷ l) le = absurd (omega (arith, le))

    alone : (b : Bool) → b ≡ false → cond b (mark ∷ []) [] ≡ []
    alone b e = rw e refl

-- one turn, in the words of the code
pub stepped : (marks later kept slice more : List Mark) (pairs found : List (Point × Point)) (count at to len : ℕ) (mark : Mark) → IsLooked marks count later pairs → mark ≡ get_or marks at mark → at ≡ count - 1 → 0 < count → kept ≡ filter (is_conflict mark) later → slice ≡ kept → found ≡ pairs ++ pairs_to mark slice → more ≡ kept ++ mark ∷ [] → len ≡ length more → to ≤ at → (to < at → len ≤ 1) → ((k : ℕ) (e : Mark) → to < at → to ≤ k → k ≤ at → IsFree marks (get_or marks k e)) → IsLooked marks to more found
stepped marks later kept slice more pairs found count at to len mark so_far here is some kept_is slice_is found_is more_is len_is most few free =
    subst (λ l. IsLooked marks to l found) (sym all)
    (subst (IsLooked marks to (filter (is_conflict mark) later ++ mark ∷ [])) (sym (found_is ∙ ap (λ l. pairs ++ pairs_to mark l) (slice_is ∙ kept_is)))
    (passed marks (filter (is_conflict mark) later) _ at to len mark (turned marks later pairs count at mark so_far (omega (arith, is, some)) here) here within (len_is ∙ ap length all) most few free))
  where
    within : at < length marks
    within = omega (arith, is, some, so_far.within)

    all : more ≡ filter (is_conflict mark) later ++ mark ∷ []
    all = more_is ∙ ap (λ l. l ++ mark ∷ []) kept_is
