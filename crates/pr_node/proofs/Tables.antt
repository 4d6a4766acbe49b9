-- The table of marks stays tied over one more entry.
use Rattle.std.proofs.Common.{◌≡◌, ◌≢◌, ℕ, ◌≤◌, List, [], ◌∷◌, inl, inr, cond, refl, sym, ◌∙◌, ap, subst, arith, nat_eq}
use Rattle.std.specs.Prelude.{All, Bool, true, false, ◌&&◌, Option, Some, None}
use Rattle.std.specs.Str.{bytes_eq}
use Rattle.std.proofs.lemmas.Slice.Eq.{bytes_eq-Decides}
use Rattle.std.proofs.lemmas.Bool.Decides.{nat_tests}
use Rattle.pr_stamps.specs.Point.{Point, is_before, is_this}
use Rattle.pr_stamps.specs.declared.mark.Mark.{Mark}
use Rattle.pr_vectors.specs.Vector.{join_of, zero_vector, is_covered}
use Rattle.pr_inval.specs.declared.write_rec.WriteRec.{WriteRec}
use Rattle.pr_stamps.specs.declared.newest.Newest.{Newest}
use Rattle.pr_marks.specs.Row.{Rises, with_mark}
use Rattle.pr_marks.specs.Table.{Table, newest_of, marks_of, raised_to, IsMarked}
use Rattle.pr_marks.proofs.Placed.{rises_with}
use Rattle.pr_story.specs.declared.entry.Entry.{Entry}
use Rattle.pr_story.specs.Knowledge.{HeardOf, TellsOf, WasNamed, first_of, floor_after, floor_of, known_mark, mark_of, mark_told}
use Rattle.pr_story.specs.Search.{later_of, IsOnly, IsNewestIn, IsNewestOf}
use Rattle.pr_story.specs.declared.event.Event.{Event}
use Rattle.pr_story.specs.declared.event.Event.TheVariants.{Accepted, Wrote}
use Rattle.pr_story.proofs.Known.{Decides-is_this, same_point}
use Rattle.pr_story.proofs.Naming.{TellsMark, WasToldMark, told_known_mark}
use Rattle.pr_story.proofs.NewestNow.{first_none, newest_more}
use Rattle.pr_story.proofs.Precise.{told_named}
use Rattle.pr_node.specs.Ties.{IsMarksOf, IsMarkInRange}
use Rattle.pr_snap.proofs.Choice.{by_test}
use Rattle.pr_node.proofs.Clocks.{floor_same}
use Rattle.pr_node.proofs.Held.{is_before_tells}
use Rattle.pr_node.proofs.Marked.{IsKept, here, kept_more, all_with}

pub newest_raised : (n : Option Newest) (x : Newest) → Some (raised_to n x) ≡ later_of n (Some x)
newest_raised None x = refl
newest_raised (Some m) x = by_test (is_before m.stamp x.stamp) (λ e. rw e refl) (λ e. rw e refl)

pub later_none : (n : Option Newest) → n ≡ later_of n None
later_none None = refl
later_none (Some x) = refl

-- ---- one write's mark

newest_marked : (e : Entry) (j : List Entry) (a b : Table) (write : WriteRec) (o : List ℕ)
    → IsNewestOf j o (newest_of a o) → IsMarked a b write.name (mark_of write) write.gone
    → ((r : Option Newest) → IsOnly write o r → IsNewestIn e.event o r)
    → IsNewestOf (e ∷ j) o (newest_of b o)
newest_marked e j a b write o old marked only =
    let new : Newest = record { stamp = write.stamp; gone = write.gone } in
    by_test (bytes_eq write.name o)
    (λ t.
    let name : write.name ≡ o = (bytes_eq-Decides write.name o).0 t in
    let is : newest_of b o ≡ Some (raised_to (newest_of a o) new) = marked.newest o ∙ ap (λ (q : Bool). cond q (Some (raised_to (newest_of a write.name) new)) (newest_of a o)) t ∙ ap (λ (x : List ℕ). Some (raised_to (newest_of a x) new)) name in
    newest_more e j o (newest_of a o) (Some new) (newest_of b o) (is ∙ newest_raised (newest_of a o) new) old (only (Some new) (name, refl, refl)))
    (λ t.
    let other : write.name ≢ o = λ name. let bad : bytes_eq write.name o ≡ true = (bytes_eq-Decides write.name o).1 name in cc in
    let is : newest_of b o ≡ newest_of a o = marked.newest o ∙ ap (λ (q : Bool). cond q (Some (raised_to (newest_of a write.name) new)) (newest_of a o)) t in
    newest_more e j o (newest_of a o) None (newest_of b o) (is ∙ later_none (newest_of a o)) old (only None other))

marks_marked : (j : List Entry) (a b : Table) (write : WriteRec) (o : List ℕ) (s : Point) (told : Option Mark)
    → IsMarksOf j a → IsMarked a b write.name (mark_of write) write.gone → told ≡ cond (is_this write.name write.stamp o s) (Some (mark_of write)) None
    → IsKept b.floor (marks_of b o) s (first_of (known_mark j o s) told)
marks_marked j a b write o s told f marked is =
    subst (λ (v : List ℕ). IsKept v (marks_of b o) s (first_of (known_mark j o s) told)) (sym marked.floor) (
    subst (λ (ms : List Mark). IsKept a.floor ms s (first_of (known_mark j o s) told)) (sym (marked.marks o)) (
    subst (λ (t : Option Mark). IsKept a.floor (cond (bytes_eq write.name o) (cond (is_covered a.floor write.stamp) (marks_of a write.name) (with_mark (marks_of a write.name) (mark_of write))) (marks_of a o)) s (first_of (known_mark j o s) t)) (sym is) (
    by_test (bytes_eq write.name o)
    (λ t. rw t (subst (λ (x : List ℕ). IsKept a.floor (cond (is_covered a.floor write.stamp) (marks_of a x) (with_mark (marks_of a x) (mark_of write))) s (first_of (known_mark j o s) (here (mark_of write) s))) (sym ((bytes_eq-Decides write.name o).0 t)) (kept_more a.floor (marks_of a o) (mark_of write) s (known_mark j o s) (f.rises o) (f.marks o s))))
    (λ t. rw t (f.marks o s ∙ ap (λ (x : Option Mark). cond (is_covered a.floor s) None x) (sym (first_none (known_mark j o s))))))))

rises_marked : (a b : Table) (name o : List ℕ) (mark : Mark) (gone : Bool) → ((x : List ℕ) → Rises (marks_of a x)) → IsMarked a b name mark gone → Rises (marks_of b o)
rises_marked a b name o mark gone rise marked =
    subst (λ (ms : List Mark). Rises ms) (sym (marked.marks o)) (
    by_test (bytes_eq name o)
    (λ t. rw t (by_test (is_covered a.floor mark.stamp) (λ c. rw c (rise name)) (λ c. rw c (rises_with (marks_of a name) mark (rise name)))))
    (λ t. rw t (rise o)))

range_marked : (a b : Table) (name o : List ℕ) (mark : Mark) (gone : Bool) → IsMarkInRange mark → ((x : List ℕ) → All IsMarkInRange (marks_of a x)) → IsMarked a b name mark gone → All IsMarkInRange (marks_of b o)
range_marked a b name o mark gone this all marked =
    subst (λ (ms : List Mark). All IsMarkInRange ms) (sym (marked.marks o)) (
    by_test (bytes_eq name o)
    (λ t. rw t (by_test (is_covered a.floor mark.stamp) (λ c. rw c (all name)) (λ c. rw c (all_with IsMarkInRange (marks_of a name) mark this (all name)))))
    (λ t. rw t (all o)))

none_at_zero : (write : WriteRec) (o : List ℕ) (s : Point) → 1 ≤ write.stamp.clock → s.clock ≡ 0 → is_this write.name write.stamp o s ≡ false
none_at_zero write o s one zero = by_clock (bytes_eq write.name o) write.stamp s one zero
  where
    by_clock : (b : Bool) (t s : Point) → 1 ≤ t.clock → s.clock ≡ 0 → (b && (nat_eq t.clock s.clock && nat_eq t.node s.node)) ≡ false
    by_clock true t s one zero = grind (arith, nat_tests)
    by_clock false t s one zero = refl

-- a write's mark is known, and its stamp
pub write_marked : (e : Entry) (j : List Entry) (a b : Table) (write : WriteRec)
    → IsMarksOf j a → IsMarked a b write.name (mark_of write) write.gone → IsMarkInRange (mark_of write)
    → ((o : List ℕ) (r : Option Newest) → IsOnly write o r → IsNewestIn e.event o r)
    → ((o : List ℕ) (s : Point) → mark_told e.event o s ≡ cond (is_this write.name write.stamp o s) (Some (mark_of write)) None)
    → floor_after e.event ≡ zero_vector
    → IsMarksOf (e ∷ j) b
write_marked e j a b write f marked range only told floor = record {
  floor = marked.floor ∙ f.floor ∙ sym (ap (λ (v : List ℕ). join_of (floor_of j) v) floor ∙ floor_same j);
  newest = λ o. newest_marked e j a b write o (f.newest o) marked (only o);
  in_range = λ o. range_marked a b write.name o (mark_of write) write.gone range f.in_range marked;
  rises = λ o. rises_marked a b write.name o (mark_of write) write.gone f.rises marked;
  from_one = λ o s zero. ap (λ (x : Option Mark). first_of x (mark_told e.event o s)) (f.from_one o s zero) ∙ told o s ∙ ap (λ (q : Bool). cond q (Some (mark_of write)) None) (none_at_zero write o s range.0.from_one zero);
  marks = λ o s. marks_marked j a b write o s (mark_told e.event o s) f marked (told o s);
}

-- ---- one write's mark once more

tells_own : (event : Event) (x : WriteRec) → TellsOf event x → TellsMark event x.name (mark_of x)
tells_own (Wrote client write body after) x is = (ap (λ (w : WriteRec). w.name) is, ap (λ (w : WriteRec). w.stamp) is, ap (λ (w : WriteRec). w.prev) is)
tells_own (Accepted msg at) x is = inl (x, is, refl, refl, refl)
tells_own _ x is = absurd is

told_again : (j : List Entry) (x : WriteRec) → HeardOf j x → WasToldMark j x.name (mark_of x)
told_again [] x heard = absurd heard
told_again (e ∷ j) x heard = elim heard [ inl now ↦ inl (tells_own e.event x now) | inr old ↦ inr (told_again j x old) ]

first_kept : (a b : Option Mark) (x : Mark) → a ≡ Some x → first_of a b ≡ a
first_kept a b x is = ap (λ (q : Option Mark). first_of q b) is ∙ sym is

mark_again : (j : List Entry) (write : WriteRec) (o : List ℕ) (s : Point) (told : Option Mark) → HeardOf j write → told ≡ cond (is_this write.name write.stamp o s) (Some (mark_of write)) None
    → first_of (known_mark j o s) told ≡ known_mark j o s
mark_again j write o s told heard is =
    by_test (is_this write.name write.stamp o s)
    (λ t.
    let same = (Decides-is_this write.name write.stamp o s).0 t in
    let (first, known) = told_known_mark j write.name (mark_of write) (told_again j write heard) in
    first_kept (known_mark j o s) told first (subst (λ (x : List ℕ). known_mark j x s ≡ Some first) same.0 (subst (λ (p : Point). known_mark j write.name p ≡ Some first) (same_point write.stamp s same.1.0 same.1.1) known)))
    (λ t. ap (λ (x : Option Mark). first_of (known_mark j o s) x) (is ∙ ap (λ (q : Bool). cond q (Some (mark_of write)) None) t) ∙ first_none (known_mark j o s))

raised_same : (j : List Entry) (o : List ℕ) (was : Option Newest) (new : Newest) → IsNewestOf j o was → WasNamed j o new.stamp → was ≡ Some (raised_to was new)
raised_same j o None new old named = absurd (old new.stamp named)
raised_same j o (Some m) new old named =
    by_test (is_before m.stamp new.stamp)
    (λ t. absurd (old.0.1 new.stamp named (is_before_tells m.stamp new.stamp t)))
    (λ t. rw t refl)

newest_again : (e : Entry) (j : List Entry) (m : Table) (write : WriteRec) (o : List ℕ)
    → IsNewestOf j o (newest_of m o) → HeardOf j write
    → ((r : Option Newest) → IsOnly write o r → IsNewestIn e.event o r)
    → IsNewestOf (e ∷ j) o (newest_of m o)
newest_again e j m write o old heard only =
    let new : Newest = record { stamp = write.stamp; gone = write.gone } in
    by_test (bytes_eq write.name o)
    (λ t.
    let name : write.name ≡ o = (bytes_eq-Decides write.name o).0 t in
    let named : WasNamed j o write.stamp = subst (λ (x : List ℕ). WasNamed j x write.stamp) name (told_named j write heard) in
    newest_more e j o (newest_of m o) (Some new) (newest_of m o) (raised_same j o (newest_of m o) new old named ∙ newest_raised (newest_of m o) new) old (only (Some new) (name, refl, refl)))
    (λ t.
    let other : write.name ≢ o = λ name. let bad : bytes_eq write.name o ≡ true = (bytes_eq-Decides write.name o).1 name in cc in
    newest_more e j o (newest_of m o) None (newest_of m o) (later_none (newest_of m o)) old (only None other))

-- a write that was heard of before leaves the table
pub heard_again : (e : Entry) (j : List Entry) (m : Table) (write : WriteRec)
    → IsMarksOf j m → HeardOf j write → 1 ≤ write.stamp.clock
    → ((o : List ℕ) (r : Option Newest) → IsOnly write o r → IsNewestIn e.event o r)
    → ((o : List ℕ) (s : Point) → mark_told e.event o s ≡ cond (is_this write.name write.stamp o s) (Some (mark_of write)) None)
    → floor_after e.event ≡ zero_vector
    → IsMarksOf (e ∷ j) m
heard_again e j m write f heard one only told floor = record {
  floor = f.floor ∙ sym (ap (λ (v : List ℕ). join_of (floor_of j) v) floor ∙ floor_same j);
  newest = λ o. newest_again e j m write o (f.newest o) heard (only o);
  rises = f.rises;
  in_range = f.in_range;
  from_one = λ o s zero. ap (λ (x : Option Mark). first_of x (mark_told e.event o s)) (f.from_one o s zero) ∙ told o s ∙ ap (λ (q : Bool). cond q (Some (mark_of write)) None) (none_at_zero write o s one zero);
  marks = λ o s. f.marks o s ∙ ap (λ (x : Option Mark). cond (is_covered m.floor s) None x) (sym (mark_again j write o s (mark_told e.event o s) heard (told o s)));
}

-- an event that tells of no mark and names no stamp leaves the table
pub same_marks : (e : Entry) (j : List Entry) (m : Table) → IsMarksOf j m → floor_after e.event ≡ zero_vector
    → ((o : List ℕ) → IsNewestIn e.event o None) → ((o : List ℕ) (s : Point) → mark_told e.event o s ≡ None) → IsMarksOf (e ∷ j) m
same_marks e j m f floor names told = record {
  floor = f.floor ∙ sym (ap (λ (v : List ℕ). join_of (floor_of j) v) floor ∙ floor_same j);
  newest = λ o. newest_more e j o (newest_of m o) None (newest_of m o) (later_none (newest_of m o)) (f.newest o) (names o);
  rises = f.rises;
  in_range = f.in_range;
  from_one = λ o s zero. ap (λ (x : Option Mark). first_of x (mark_told e.event o s)) (f.from_one o s zero) ∙ told o s;
  marks = λ o s. f.marks o s ∙ ap (λ (x : Option Mark). cond (is_covered m.floor s) None x) (sym (ap (λ (t : Option Mark). first_of (known_mark j o s) t) (told o s) ∙ first_none (known_mark j o s)));
}
