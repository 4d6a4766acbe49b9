-- The conflicts that the table of marks finds are those of a history.
use Rattle.std.proofs.Common.{◌≡◌, ℕ, ◌≤◌, inl, inr, List, [], ◌∷◌, ◌++◌, suc, cond, refl, sym, ◌∙◌, ap, subst, arith, get_or, nat_le}
use Rattle.std.specs.Prelude.{Bool, true, false, Option, Some, None, IsTrue, All, Contains, ◌↔◌}
use Rattle.std.specs.List.{flat_map}
use Rattle.std.proofs.lemmas.Bool.Decides.{nat_tests}
use Rattle.std.proofs.lemmas.List.Elements.{All-contains_itself}
use Rattle.pr_stamps.specs.Point.{Point, Before, IsStamp, is_before}
use Rattle.pr_stamps.specs.declared.mark.Mark.{Mark}
use Rattle.pr_vectors.specs.Vector.{clock_of, Covers, is_covered}
use Rattle.pr_marks.specs.Row.{Rises}
use Rattle.pr_marks.specs.Table.{Table, marks_of}
use Rattle.pr_marks.specs.Pairs.{pairs_with as with_in, pairs_of as of_in}
use Rattle.pr_story.specs.declared.entry.Entry.{Entry}
use Rattle.pr_story.specs.Knowledge.{AreConflicts, IsMark, known_mark, mark_at, first_of}
use Rattle.pr_story.specs.Marking.{MarksRise, pairs_with, pairs_of}
use Rattle.pr_stamps.specs.Marks.{is_conflict}
use Rattle.pr_story.proofs.Marking.{conflicts_are, conflicts_same}
use Rattle.pr_story.proofs.Sorted.{contains_none, first_or_later, is_first, is_later}
use Rattle.pr_node.specs.Ties.{IsMarksOf, IsMarkInRange}
use Rattle.pr_snap.proofs.Choice.{by_test}
use Rattle.pr_node.proofs.Marked.{is_at, here}

-- ---- the pairs, in the words of a history

with_same : (x : Mark) (ys : List Mark) → with_in ys x ≡ pairs_with x ys
with_same x [] = refl
with_same x (y ∷ ys) = by_test (is_conflict x y) (λ e. rw e (ap (λ (ps : List (Point × Point)). (x.stamp, y.stamp) ∷ ps) (with_same x ys))) (λ e. rw e (with_same x ys))

of_same : (xs marks : List Mark) → flat_map (with_in marks) xs ≡ pairs_of xs marks
of_same [] marks = refl
of_same (x ∷ xs) marks = ap (λ (ps : List (Point × Point)). ps ++ flat_map (with_in marks) xs) (with_same x marks) ∙ ap (λ (ps : List (Point × Point)). pairs_with x marks ++ ps) (of_same xs marks)

before_is : (s t : Point) → IsTrue (is_before s t) → Before s t
before_is s t e = grind (arith, nat_tests)

pub marks_rise : (marks : List Mark) → Rises marks → MarksRise marks
marks_rise marks rise i k d lt within = before_is (get_or marks i d).stamp (get_or marks k d).stamp (rise i k d lt within)

-- ---- the marks of the table are those that the node knows above the floor

itself : (s : Point) → is_at s s ≡ true
itself s = grind (arith, nat_tests)

apart : (s t : Point) → Before s t → is_at s t ≡ false
apart s t b = grind (arith, nat_tests)

rises_tail : (x : Mark) (xs : List Mark) → MarksRise (x ∷ xs) → MarksRise xs
rises_tail x xs rise i j d lt within = rise (suc i) (suc j) d (omega arith) (omega arith)

head_before : (x : Mark) (xs : List Mark) (m : Mark) → MarksRise (x ∷ xs) → Contains xs m → Before x.stamp m.stamp
head_before x xs m rise c = subst (λ (y : Mark). Before x.stamp y.stamp) c.2 (rise 0 (suc c.0) m (omega arith) (omega (arith, c.1)))

pub at_itself : (marks : List Mark) (m : Mark) → MarksRise marks → Contains marks m → mark_at marks m.stamp ≡ Some m
at_itself [] m rise c = absurd (contains_none m c)
at_itself (x ∷ xs) m rise c = elim (first_or_later x xs m c) [
  | inl same ↦ subst (λ (y : Mark). first_of (here x y.stamp) (mark_at xs y.stamp) ≡ Some y) same (rw (itself x.stamp) refl)
  | inr later ↦ rw (apart x.stamp m.stamp (head_before x xs m rise later)) (at_itself xs m (rises_tail x xs rise) later)
]

pub at_contains : (marks : List Mark) (s : Point) (m : Mark) → mark_at marks s ≡ Some m → Contains marks m
at_contains [] s m e = absurd (cc)
at_contains (x ∷ xs) s m e = by_test (is_at x.stamp s)
    (λ h. let same : Some x ≡ Some m = sym (ap (λ (b : Bool). first_of (cond b (Some x) None) (mark_at xs s)) h) ∙ e in subst (λ (y : Mark). Contains (x ∷ xs) y) (some_is x m same) (is_first x xs))
    (λ h. is_later x xs m (at_contains xs s m (sym (ap (λ (b : Bool). first_of (cond b (Some x) None) (mark_at xs s)) h) ∙ e)))
  where
    some_is : (x y : Mark) → Some x ≡ Some y → x ≡ y
    some_is x y e = cc

not_covered_is : (v : List ℕ) (s : Point) → is_covered v s ≡ false → Covers v s → ⊥
not_covered_is v s e c = by (s.clock) (clock_of v s.node) e c.1
  where
    by : (a b : ℕ) → nat_le a b ≡ false → a ≤ b → ⊥
    by a b e le = grind (arith, nat_tests)

is_not_covered : (v : List ℕ) (s : Point) → 1 ≤ s.clock → (Covers v s → ⊥) → is_covered v s ≡ false
is_not_covered v s one n = by_test (is_covered v s) (λ e. absurd (n (one, by s.clock (clock_of v s.node) e))) (λ e. e)
  where
    by : (a b : ℕ) → nat_le a b ≡ true → a ≤ b
    by a b e = grind (arith, nat_tests)

known_by : (b : Bool) (known : Option Mark) (m : Mark) → cond b None known ≡ Some m → (b ≡ false) × (known ≡ Some m)
known_by true known m e = absurd (cc)
known_by false known m e = (refl, e)

from_one : (c : ℕ) → (c ≡ 0 → ⊥) → 1 ≤ c
from_one c n = grind arith

pub mark_is : (j : List Entry) (t : Table) (o : List ℕ) → IsMarksOf j t → (m : Mark) → Contains (marks_of t o) m ↔ IsMark j o m
mark_is j t o f m = (
  λ c.
      let e = known_by (is_covered t.floor m.stamp) (known_mark j o m.stamp) m (sym (f.marks o m.stamp) ∙ at_itself (marks_of t o) m (marks_rise (marks_of t o) (f.rises o)) c) in
      (e.1, subst (λ (v : List ℕ). Covers v m.stamp → ⊥) f.floor (not_covered_is t.floor m.stamp e.0)),
  λ k.
      let one : 1 ≤ m.stamp.clock = from_one m.stamp.clock (λ none. let x : known_mark j o m.stamp ≡ None = f.from_one o m.stamp none in let y : known_mark j o m.stamp ≡ Some m = k.0 in absurd (none_some m (known_mark j o m.stamp) x y)) in
      let low : is_covered t.floor m.stamp ≡ false = is_not_covered t.floor m.stamp one (subst (λ (v : List ℕ). Covers v m.stamp → ⊥) (sym f.floor) k.1) in
      at_contains (marks_of t o) m.stamp m (f.marks o m.stamp ∙ ap (λ (b : Bool). cond b None (known_mark j o m.stamp)) low ∙ k.0),
)
  where
    none_some : (m : Mark) (x : Option Mark) → x ≡ None → x ≡ Some m → ⊥
    none_some m x e g = cc

pub conflicts_in : (j : List Entry) (t : Table) (o : List ℕ) (pairs : List (Point × Point)) → IsMarksOf j t → pairs ≡ of_in (marks_of t o) → AreConflicts (IsMark j o) pairs
conflicts_in j t o pairs f is =
    conflicts_same (λ m. Contains (marks_of t o) m) (λ m. IsMark j o m) pairs (mark_is j t o f)
    (conflicts_are (marks_of t o) pairs (is ∙ of_same (marks_of t o) (marks_of t o)) (marks_rise (marks_of t o) (f.rises o)))

all_has : (P : Mark → Type 0) (xs : List Mark) (x : Mark) → All P xs → Contains xs x → P x
all_has P xs x all c = subst (λ (y : Mark). P y) c.2 (all c.0 x c.1)

-- the stamps of conflicts are stamps of marks
pub conflicts_range : (j : List Entry) (t : Table) (o : List ℕ) (pairs : List (Point × Point)) → IsMarksOf j t → AreConflicts (IsMark j o) pairs → All (λ (p : Point × Point). IsStamp p.0 × IsStamp p.1) pairs
conflicts_range j t o pairs f are k d lt =
    let p : Point × Point = get_or pairs k d in
    let r = are.1 p.0 p.1 (All-contains_itself pairs k d lt) in (
      subst (λ (s : Point). IsStamp s) r.4 (all_has IsMarkInRange (marks_of t o) r.0 (f.in_range o) ((mark_is j t o f r.0).1 r.2)).0,
      subst (λ (s : Point). IsStamp s) r.5 (all_has IsMarkInRange (marks_of t o) r.1 (f.in_range o) ((mark_is j t o f r.1).1 r.3)).0,
    )
