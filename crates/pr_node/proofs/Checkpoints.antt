-- The table of marks stays tied over an accepted checkpoint.
use Rattle.std.proofs.Common.{◌≡◌, ℕ, ◌<◌, ◌≤◌, inl, inr, List, [], ◌∷◌, ◌++◌, suc, cond, refl, sym, ◌∙◌, ap, subst, arith, length, max, nat_le, get_or}
use Rattle.std.specs.Prelude.{Bool, true, false, not, ◌||◌, Option, Some, None, IsTrue, All}
use Rattle.std.specs.Str.{bytes_eq}
use Rattle.std.proofs.lemmas.Slice.Eq.{bytes_eq-Decides}
use Rattle.std.proofs.lemmas.Bool.Decides.{nat_tests}
use Rattle.std.proofs.lemmas.List.{get_or_past, append_assoc, append-nil}
use Rattle.std.proofs.lemmas.List.Kept.{AllPairs-filter}
use Rattle.pr_stamps.specs.Point.{Point, Before, IsStamp, is_before}
use Rattle.pr_stamps.specs.declared.mark.Mark.{Mark}
use Rattle.pr_names.specs.Span.{Span}
use Rattle.pr_vectors.specs.Vector.{clock_of, join_of, IsVector, is_covered}
use Rattle.pr_vectors.proofs.Vectors.{clock_of-vector_of}
use Rattle.pr_inval.specs.declared.kind.Kind.{Kind}
use Rattle.pr_inval.specs.declared.kind.Kind.TheVariants.{Checkpoint}
use Rattle.pr_inval.specs.declared.msg.Msg.{Msg}
use Rattle.pr_inval.specs.declared.row.Row.{Row}
use Rattle.pr_stamps.specs.declared.newest.Newest.{Newest}
use Rattle.pr_marks.specs.Row.{Rises, with_mark, above_floor}
use Rattle.pr_marks.specs.Table.{Table, newest_of, marks_of, raised_to}
use Rattle.pr_marks.proofs.Placed.{rises_with}
use Rattle.pr_snap.specs.Apply.{newest_by, newest_after, newest_among, marks_by, marks_among}
use Rattle.pr_story.specs.declared.entry.Entry.{Entry}
use Rattle.pr_story.specs.declared.event.Event.TheVariants.{Accepted}
use Rattle.pr_story.specs.Knowledge.{first_of, floor_in, floor_of, known_mark, mark_at, mark_in_rows, mark_in}
use Rattle.pr_story.specs.Ranges.{IsRow}
use Rattle.pr_story.specs.Search.{later_of, IsNewestRow, IsNewestOf}
use Rattle.pr_story.proofs.NewestNow.{first_none, first_twice, newest_more, rows_newest, other_row, this_row_of}
use Rattle.pr_node.specs.Ties.{IsMarksOf, IsMarkInRange}
use Rattle.pr_snap.proofs.Choice.{by_test}
use Rattle.pr_node.proofs.Clocks.{clock_out, floor_out, below_or_not}
use Rattle.pr_node.proofs.Marked.{IsKept, here, is_at, kept_more, covered_alike, all_with, all_above}
use Rattle.pr_node.proofs.Tables.{newest_raised}

-- ---- newest stamps

before_is : (s t : Point) → is_before s t ≡ true → Before s t
before_is s t e = grind (arith, nat_tests)

not_before_is : (s t : Point) → (Before s t → ⊥) → is_before s t ≡ false
not_before_is s t n = grind (arith, nat_tests)

not_after : (s t u : Point) → is_before s t ≡ false → (Before t u → ⊥) → Before s u → ⊥
not_after s t u e n b = grind (arith, nat_tests)

-- marks that are not after the newest leave it
marks_leave : (n : Newest) (marks : List Mark) → All (λ (m : Mark). ¬ Before n.stamp m.stamp) marks → newest_by marks (Some n) ≡ Some n
marks_leave n [] all = refl
marks_leave n (m ∷ ms) all = rw (not_before_is n.stamp m.stamp (all 0 m (omega arith))) (marks_leave n ms (λ k d lt. all (suc k) d (omega arith)))

row_newest : (row : Row) (n : Option Newest) → All (λ (m : Mark). ¬ Before row.newest m.stamp) row.marks
    → newest_after row n ≡ Some (raised_to n (record { stamp = row.newest; gone = row.gone }))
row_newest row None all = marks_leave (record { stamp = row.newest; gone = row.gone }) row.marks all
row_newest row (Some m) all = by_test (is_before m.stamp row.newest)
    (λ e. rw e (marks_leave (record { stamp = row.newest; gone = row.gone }) row.marks all))
    (λ e. rw e (marks_leave m row.marks (λ k d lt. not_after m.stamp row.newest (get_or row.marks k d).stamp e (all k d lt))))

first_later : (x y z : Newest) → later_of (later_of (Some x) (Some y)) (Some z) ≡ later_of (Some x) (later_of (Some y) (Some z))
first_later x y z = by_test (is_before x.stamp y.stamp)
    (λ xy. by_test (is_before y.stamp z.stamp)
    (λ yz. rw xy (rw yz (rw (both x.stamp y.stamp z.stamp xy yz) refl)))
    (λ yz. rw xy (rw yz (rw xy refl))))
    (λ xy. by_test (is_before y.stamp z.stamp)
    (λ yz. rw xy (rw yz refl))
    (λ yz. rw xy (rw yz (rw xy (rw (neither x.stamp y.stamp z.stamp xy yz) refl)))))
  where
    both : (s t u : Point) → is_before s t ≡ true → is_before t u ≡ true → is_before s u ≡ true
    both s t u a b = grind (arith, nat_tests)

    neither : (s t u : Point) → is_before s t ≡ false → is_before t u ≡ false → is_before s u ≡ false
    neither s t u a b = grind (arith, nat_tests)

later_twice : (a b : Option Newest) (z : Newest) → later_of (later_of a b) (Some z) ≡ later_of a (later_of b (Some z))
later_twice None b z = refl
later_twice (Some x) None z = refl
later_twice (Some x) (Some y) z = first_later x y z

later_none : (n : Option Newest) → later_of n None ≡ n
later_none None = refl
later_none (Some x) = refl

-- the rows name what was named before them, or later
abbrev HasLater : List Row → List ℕ → Option Newest → Option Newest → Type 0
HasLater rows o was now = (here : Option Newest) × IsNewestRow rows o here × (now ≡ later_of was here)

one_row : (done : List Row) (row : Row) (o : List ℕ) (was : Option Newest) (n : Option Newest)
    → All (λ (m : Mark). ¬ Before row.newest m.stamp) row.marks → HasLater done o was n
    → HasLater (done ++ row ∷ []) o was (cond (bytes_eq row.name o) (newest_after row n) n)
one_row done row o was n all old =
    let now : Newest = record { stamp = row.newest; gone = row.gone } in
    by_test (bytes_eq row.name o)
    (λ e. rw e (
      later_of old.0 (Some now),
      this_row_of done row o old.0 (later_of old.0 (Some now)) now ((bytes_eq-Decides row.name o).0 e) refl refl refl old.1,
      row_newest row n all ∙ newest_raised n now ∙ ap (λ (x : Option Newest). later_of x (Some now)) old.2 ∙ later_twice was old.0 now,
    ))
    (λ e. rw e (old.0, other_row done row o old.0 (λ name. let bad : bytes_eq row.name o ≡ true = (bytes_eq-Decides row.name o).1 name in cc) old.1, old.2))

all_rows : (done rows : List Row) (o : List ℕ) (was : Option Newest) (n : Option Newest)
    → All (λ (row : Row). All (λ (m : Mark). ¬ Before row.newest m.stamp) row.marks) rows → HasLater done o was n
    → HasLater (done ++ rows) o was (newest_among rows o n)
all_rows done [] o was n all old = subst (λ (r : List Row). HasLater r o was n) (sym (append-nil done)) old
all_rows done (row ∷ rows) o was n all old =
    subst (λ (r : List Row). HasLater r o was (newest_among (row ∷ rows) o n)) (append_assoc done (row ∷ []) rows) (
    all_rows (done ++ row ∷ []) rows o was (cond (bytes_eq row.name o) (newest_after row n) n) (λ k d lt. all (suc k) d (omega arith)) (one_row done row o was n (all 0 row (omega arith)) old))

none_yet : (o : List ℕ) → IsNewestRow [] o None
none_yet o row c e = let bad : c.0 < 0 = c.1 in omega arith

newest_applied : (j : List Entry) (m q : Table) (time caller : ℕ) (msg : Msg) (at to : List ℕ) (target : List Span) (floor : List ℕ) (rows : List Row) (o : List ℕ)
    → msg.kind ≡ Checkpoint to target floor rows → All (λ (row : Row). All (λ (mark : Mark). ¬ Before row.newest mark.stamp) row.marks) rows
    → IsNewestOf j o (newest_of m o) → newest_of q o ≡ newest_among rows o (newest_of m o)
    → IsNewestOf (record { time = time; caller = caller; event = Accepted msg at } ∷ j) o (newest_of q o)
newest_applied j m q time caller msg at to target floor rows o is orderly old applied =
    let l : HasLater rows o (newest_of m o) (newest_among rows o (newest_of m o)) = all_rows [] rows o (newest_of m o) (newest_of m o) orderly (None, none_yet o, sym (later_none (newest_of m o))) in
    newest_more (record { time = time; caller = caller; event = Accepted msg at }) j o (newest_of m o) l.0 (newest_of q o) (applied ∙ l.2) old (rows_newest msg at to floor target rows o l.0 is l.1)

-- ---- marks

kept_as : (floor : List ℕ) (marks : List Mark) (s : Point) (x y : Option Mark) → x ≡ y → IsKept floor marks s x → IsKept floor marks s y
kept_as floor marks s x y e k = subst (λ (z : Option Mark). IsKept floor marks s z) e k

rises_by : (floor : List ℕ) (xs marks : List Mark) → Rises marks → Rises (marks_by floor xs marks)
rises_by floor [] marks rise = rise
rises_by floor (x ∷ xs) marks rise = rises_by floor xs (cond (is_covered floor x.stamp) marks (with_mark marks x)) (
    by_test (is_covered floor x.stamp) (λ e. rw e rise) (λ e. rw e (rises_with marks x rise)))

kept_by : (floor : List ℕ) (xs marks : List Mark) (s : Point) (known : Option Mark) → Rises marks → IsKept floor marks s known
    → IsKept floor (marks_by floor xs marks) s (first_of known (mark_at xs s))
kept_by floor [] marks s known rise old = kept_as floor marks s known (first_of known None) (sym (first_none known)) old
kept_by floor (x ∷ xs) marks s known rise old =
    kept_as floor (marks_by floor (x ∷ xs) marks) s (first_of (first_of known (here x s)) (mark_at xs s)) (first_of known (mark_at (x ∷ xs) s)) (sym (first_twice known (here x s) (mark_at xs s)))
    (kept_by floor xs (cond (is_covered floor x.stamp) marks (with_mark marks x)) s (first_of known (here x s))
    (rises_by floor (x ∷ []) marks rise)
    (kept_more floor marks x s known rise old))

rises_among : (floor : List ℕ) (rows : List Row) (o : List ℕ) (marks : List Mark) → Rises marks → Rises (marks_among floor rows o marks)
rises_among floor [] o marks rise = rise
rises_among floor (row ∷ rows) o marks rise = rises_among floor rows o (cond (bytes_eq row.name o) (marks_by floor row.marks marks) marks) (
    by_test (bytes_eq row.name o) (λ e. rw e (rises_by floor row.marks marks rise)) (λ e. rw e rise))

rises_row : (floor : List ℕ) (row : Row) (o : List ℕ) (marks : List Mark) → Rises marks → Rises (cond (bytes_eq row.name o) (marks_by floor row.marks marks) marks)
rises_row floor row o marks rise = by_test (bytes_eq row.name o) (λ e. rw e (rises_by floor row.marks marks rise)) (λ e. rw e rise)

kept_row : (floor : List ℕ) (row : Row) (o : List ℕ) (marks : List Mark) (s : Point) (known : Option Mark) → Rises marks → IsKept floor marks s known
    → IsKept floor (cond (bytes_eq row.name o) (marks_by floor row.marks marks) marks) s (first_of known (cond (bytes_eq row.name o) (mark_at row.marks s) None))
kept_row floor row o marks s known rise old = by_test (bytes_eq row.name o)
    (λ e. rw e (kept_by floor row.marks marks s known rise old))
    (λ e. rw e (kept_as floor marks s known (first_of known None) (sym (first_none known)) old))

kept_among : (floor : List ℕ) (rows : List Row) (o : List ℕ) (marks : List Mark) (s : Point) (known : Option Mark) → Rises marks → IsKept floor marks s known
    → IsKept floor (marks_among floor rows o marks) s (first_of known (mark_in_rows rows o s))
kept_among floor [] o marks s known rise old = kept_as floor marks s known (first_of known None) (sym (first_none known)) old
kept_among floor (row ∷ rows) o marks s known rise old =
    let this : Option Mark = cond (bytes_eq row.name o) (mark_at row.marks s) None in
    kept_as floor (marks_among floor (row ∷ rows) o marks) s (first_of (first_of known this) (mark_in_rows rows o s)) (first_of known (mark_in_rows (row ∷ rows) o s)) (sym (first_twice known this (mark_in_rows rows o s)))
    (kept_among floor rows o (cond (bytes_eq row.name o) (marks_by floor row.marks marks) marks) s (first_of known this) (rises_row floor row o marks rise) (kept_row floor row o marks s known rise old))

range_by : (floor : List ℕ) (xs marks : List Mark) → All IsMarkInRange xs → All IsMarkInRange marks → All IsMarkInRange (marks_by floor xs marks)
range_by floor [] marks new old = old
range_by floor (x ∷ xs) marks new old = range_by floor xs (cond (is_covered floor x.stamp) marks (with_mark marks x)) (λ k d lt. new (suc k) d (omega arith)) (
    by_test (is_covered floor x.stamp) (λ e. rw e old) (λ e. rw e (all_with IsMarkInRange marks x (new 0 x (omega arith)) old)))

range_among : (floor : List ℕ) (rows : List Row) (o : List ℕ) (marks : List Mark) → All IsRow rows → All IsMarkInRange marks → All IsMarkInRange (marks_among floor rows o marks)
range_among floor [] o marks new old = old
range_among floor (row ∷ rows) o marks new old = range_among floor rows o (cond (bytes_eq row.name o) (marks_by floor row.marks marks) marks) (λ k d lt. new (suc k) d (omega arith)) (
    by_test (bytes_eq row.name o) (λ e. rw e (range_by floor row.marks marks (new 0 row (omega arith)).2 old)) (λ e. rw e old))

-- what the floor does not cover is found as before
pub at_above : (floor : List ℕ) (marks : List Mark) (s : Point) → mark_at (above_floor floor marks) s ≡ cond (is_covered floor s) None (mark_at marks s)
at_above floor [] s = by_test (is_covered floor s) (λ e. rw e refl) (λ e. rw e refl)
at_above floor (m ∷ ms) s = by_test (is_covered floor m.stamp)
    (λ e. rw e (at_above floor ms s ∙ by_test (is_at m.stamp s)
    (λ h. rw (sym (covered_alike floor m.stamp s h) ∙ e) refl)
    (λ h. rw h refl)))
    (λ e. rw e (ap (λ (x : Option Mark). first_of (here m s) x) (at_above floor ms s) ∙ by_test (is_covered floor s)
    (λ g. rw g (by_test (is_at m.stamp s)
    (λ h. let bad : false ≡ true = sym e ∙ covered_alike floor m.stamp s h ∙ g in cc)
    (λ h. rw h refl)))
    (λ g. rw g refl)))

pub covered_join : (j : List Entry) (v w : List ℕ) (s : Point) → v ≡ floor_of j → IsVector w → is_covered (join_of v w) s ≡ (is_covered v s || is_covered w s)
covered_join j v w s is range = elim (below_or_not s.node 32) [
  | inl lt ↦ by_clocks s.clock (clock_of v s.node) (clock_of w s.node) (clock_of (join_of v w) s.node) (clock_of-vector_of (λ n. max (clock_of v n) (clock_of w n)) s.node lt)
  | inr out ↦
      let a : clock_of (join_of v w) s.node ≡ 0 = clock_out (λ n. max (clock_of v n) (clock_of w n)) s.node out in
      let b : clock_of v s.node ≡ 0 = ap (λ (x : List ℕ). clock_of x s.node) is ∙ floor_out j s.node out in
      let c : clock_of w s.node ≡ 0 = get_or_past w s.node 0 (let len : length w ≡ 32 = range.nodes in omega arith) in
      by_clocks s.clock (clock_of v s.node) (clock_of w s.node) (clock_of (join_of v w) s.node) (zeros (clock_of v s.node) (clock_of w s.node) (clock_of (join_of v w) s.node) a b c)
]
  where
    by_clocks : (c a b m : ℕ) → m ≡ max a b → nat_le c m ≡ (nat_le c a || nat_le c b)
    by_clocks c a b m e = grind (arith, nat_tests)

    zeros : (a b m : ℕ) → m ≡ 0 → a ≡ 0 → b ≡ 0 → m ≡ max a b
    zeros a b m x y z = grind arith

pub kept_above : (v w u : List ℕ) (marks : List Mark) (s : Point) (known : Option Mark) → is_covered u s ≡ (is_covered v s || is_covered w s) → IsKept v marks s known → IsKept u (above_floor w marks) s known
kept_above v w u marks s known either old = at_above w marks s ∙ ap (λ (x : Option Mark). cond (is_covered w s) None x) old ∙ by (is_covered v s) (is_covered w s) (is_covered u s) either
  where
    by : (a b c : Bool) → c ≡ (a || b) → cond b None (cond a None known) ≡ cond c None known
    by true true c e = rw e refl
    by true false c e = rw e refl
    by false true c e = rw e refl
    by false false c e = rw e refl

-- ---- no mark has the clock zero

no_mark : (marks : List Mark) (s : Point) → All (λ (m : Mark). IsStamp m.stamp) marks → s.clock ≡ 0 → mark_at marks s ≡ None
no_mark [] s all none = refl
no_mark (m ∷ ms) s all none = rw (apart m.stamp s (all 0 m (omega arith)).from_one none) (no_mark ms s (λ k d lt. all (suc k) d (omega arith)) none)
  where
    apart : (t s : Point) → 1 ≤ t.clock → s.clock ≡ 0 → is_at t s ≡ false
    apart t s one none = grind (arith, nat_tests)

no_first : (b : Bool) (x y : Option Mark) → x ≡ None → y ≡ None → first_of (cond b x None) y ≡ None
no_first true x y e g = rw e g
no_first false x y e g = g

no_row_mark : (rows : List Row) (o : List ℕ) (s : Point) → All IsRow rows → s.clock ≡ 0 → mark_in_rows rows o s ≡ None
no_row_mark [] o s all none = refl
no_row_mark (row ∷ rows) o s all none =
    no_first (bytes_eq row.name o) (mark_at row.marks s) (mark_in_rows rows o s)
    (no_mark row.marks s (λ k d lt. ((all 0 row (omega arith)).2 k d lt).0) none)
    (no_row_mark rows o s (λ k d lt. all (suc k) d (omega arith)) none)

-- ---- the table

pub applied_marks : (j : List Entry) (m q : Table) (time caller : ℕ) (msg : Msg) (at to : List ℕ) (target : List Span) (floor : List ℕ) (rows : List Row)
    → msg.kind ≡ Checkpoint to target floor rows → IsVector floor → All IsRow rows → All (λ (row : Row). All (λ (mark : Mark). ¬ Before row.newest mark.stamp) row.marks) rows
    → IsMarksOf j m → q.floor ≡ join_of m.floor floor → ((o : List ℕ) → newest_of q o ≡ newest_among rows o (newest_of m o)) → ((o : List ℕ) → marks_of q o ≡ above_floor floor (marks_among m.floor rows o (marks_of m o)))
    → IsMarksOf (record { time = time; caller = caller; event = Accepted msg at } ∷ j) q
applied_marks j m q time caller msg at to target floor rows is range ranges orderly f floored newest marks = record {
  floor = floored ∙ ap (λ (v : List ℕ). join_of v floor) f.floor ∙ sym (ap (λ (k : Kind). join_of (floor_of j) (floor_in k)) is);
  newest = λ o. newest_applied j m q time caller msg at to target floor rows o is orderly (f.newest o) (newest o);
  rises = λ o. subst (λ (ms : List Mark). Rises ms) (sym (marks o)) (AllPairs-filter (λ (x : Mark) (y : Mark). IsTrue (is_before x.stamp y.stamp)) (λ (x : Mark). not (is_covered floor x.stamp)) (marks_among m.floor rows o (marks_of m o)) (rises_among m.floor rows o (marks_of m o) (f.rises o)));
  in_range = λ o. subst (λ (ms : List Mark). All IsMarkInRange ms) (sym (marks o)) (all_above IsMarkInRange floor (marks_among m.floor rows o (marks_of m o)) (range_among m.floor rows o (marks_of m o) ranges (f.in_range o)));
  from_one = λ o s none. ap (λ (x : Option Mark). first_of x (mark_in msg.kind o s)) (f.from_one o s none) ∙ ap (λ (k : Kind). mark_in k o s) is ∙ no_row_mark rows o s ranges none;
  marks = λ o s.
      subst (λ (ms : List Mark). IsKept q.floor ms s (first_of (known_mark j o s) (mark_in msg.kind o s))) (sym (marks o)) (
      subst (λ (k : Kind). IsKept q.floor (above_floor floor (marks_among m.floor rows o (marks_of m o))) s (first_of (known_mark j o s) (mark_in k o s))) (sym is) (
      kept_above m.floor floor q.floor (marks_among m.floor rows o (marks_of m o)) s (first_of (known_mark j o s) (mark_in_rows rows o s))
      (ap (λ (v : List ℕ). is_covered v s) floored ∙ covered_join j m.floor floor s f.floor range)
      (kept_among m.floor rows o (marks_of m o) s (known_mark j o s) (f.rises o) (f.marks o s))));
}
