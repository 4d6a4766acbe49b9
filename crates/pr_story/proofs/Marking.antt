-- Marks in the order of their stamps, and the conflicts among them.
use Rattle.std.proofs.Common.{◌≡◌, ℕ, ◌⊎◌, inl, inr, List, [], ◌∷◌, ◌++◌, Bool, true, false, refl, sym, ap, subst, ◌∙◌, arith, cond, nat_eq, append_assoc, ◌<◌, ◌≤◌, ◌+◌, length, get_or, drop}
use Rattle.std.specs.Prelude.{Option, None, Some, Contains, filter, ◌&&◌, ◌↔◌, AllPairs}
use Rattle.std.specs.Str.{bytes_eq}
use Rattle.std.proofs.lemmas.Bool.Decides.{nat_tests}
use Rattle.std.proofs.lemmas.List.Elements.{Contains-append_left, Contains-append_right, Contains-append_cases}
use Rattle.std.proofs.lemmas.Slice.Eq.{bytes_eq-Decides}
use Rattle.pr_names.specs.Span.{Span}
use Rattle.pr_stamps.specs.Point.{Point, Before, is_before, is_missed}
use Rattle.pr_stamps.specs.declared.mark.Mark.{Mark}
use Rattle.pr_inval.specs.declared.kind.Kind.{Kind}
use Rattle.pr_inval.specs.declared.kind.Kind.TheVariants.{Precise, Checkpoint}
use Rattle.pr_inval.specs.declared.msg.Msg.{Msg}
use Rattle.pr_inval.specs.declared.row.Row.{Row}
use Rattle.pr_inval.specs.declared.write_rec.WriteRec.{WriteRec}
use Rattle.pr_story.specs.declared.event.Event.TheVariants.{Accepted}
use Rattle.pr_vectors.specs.Vector.{Covers}
use Rattle.pr_story.specs.declared.entry.Entry.{Entry}
use Rattle.pr_story.specs.Knowledge.{first_of, mark_at, mark_in, mark_in_rows, mark_of, mark_told, known_mark, floor_of, IsMark, MissedBy, AreConflicts}
use Rattle.pr_story.specs.Marking.{if_at, mark_by_row, mark_by_write, MarksRise, AreMarks, IsMarkedBy, marks_below, marks_past, pairs_with, pairs_of}
use Rattle.pr_stamps.specs.Marks.{is_conflict}
use Rattle.pr_story.proofs.InOrder.{pairs_before, pairs_last, last_pairs, placed_pairs, pairs_none, pairs_cons, pairs_append}
use Rattle.pr_story.proofs.Known.{same_point}
use Rattle.pr_story.proofs.Naming.{Decides-stamp, at_marks, first_left, first_right, picks}
use Rattle.pr_story.proofs.NewestNow.{before_tells, first_twice, first_none}
use Rattle.pr_story.proofs.Sorted.{contains_none, first_or_later, one_item, pairs_first, pairs_later, is_first, is_later}
use Rattle.std.proofs.lemmas.List.{append-nil, drop_all, drop_more}
use Rattle.pr_story.proofs.Lit.{bool_cases, both_true}

-- ---- stamps

before_true : (s t : Point) → is_before s t ≡ true → Before s t
before_true s t e = elim (before_tells s t) [ inl is ↦ is.1 | inr is ↦ absurd (let f = is.0 in cc) ]

true_before : (s t : Point) → Before s t → is_before s t ≡ true
true_before s t b = elim (before_tells s t) [ inl is ↦ is.0 | inr is ↦ absurd (is.1 b) ]

before_both : (s t r : Point) → Before s t → Before t r → Before s r
before_both s t r a b = grind arith

-- the stamp comes before the other, is the same, or comes after it
three : (s t : Point) →
    ((is_before s t ≡ true) × (is_before t s ≡ false) × ((nat_eq t.clock s.clock && nat_eq t.node s.node) ≡ false))
    ⊎ (((is_before s t ≡ false) × (is_before t s ≡ false) × ((nat_eq t.clock s.clock && nat_eq t.node s.node) ≡ true))
    ⊎ ((is_before s t ≡ false) × (is_before t s ≡ true) × ((nat_eq t.clock s.clock && nat_eq t.node s.node) ≡ false)))
three s t = grind (arith, nat_tests)

-- ---- the mark at a stamp

pub at_append : (xs ys : List Mark) (s : Point) → mark_at (xs ++ ys) s ≡ first_of (mark_at xs s) (mark_at ys s)
at_append [] ys s = refl
at_append (x ∷ xs) ys s = ap (λ (m : Option Mark). first_of (if_at x s) m) (at_append xs ys s) ∙ first_twice (if_at x s) (mark_at xs s) (mark_at ys s)

pub at_last : (xs : List Mark) (x : Mark) (s : Point) → mark_at (xs ++ x ∷ []) s ≡ first_of (mark_at xs s) (if_at x s)
at_last xs x s = at_append xs (x ∷ []) s ∙ ap (λ (m : Option Mark). first_of (mark_at xs s) m) (first_none (if_at x s))

pub rows_last : (rows : List Row) (row : Row) (o : List ℕ) (s : Point) → mark_in_rows (rows ++ row ∷ []) o s ≡ first_of (mark_in_rows rows o s) (mark_by_row row o s)
rows_last [] row o s = first_none (mark_by_row row o s)
rows_last (r ∷ rows) row o s = ap (λ (m : Option Mark). first_of (mark_by_row r o s) m) (rows_last rows row o s) ∙ first_twice (mark_by_row r o s) (mark_in_rows rows o s) (mark_by_row row o s)

at_step : (kept here same : Bool) (m : Mark) (there rest : Option Mark) → (same ≡ true → kept ≡ here) → there ≡ cond here rest None
    → cond kept (first_of (cond same (Some m) None) there) there ≡ cond here (first_of (cond same (Some m) None) rest) None
at_step true true true m there rest f e = refl
at_step true false true m there rest f e = absurd (let x = f refl in cc)
at_step false true true m there rest f e = absurd (let x = f refl in cc)
at_step false false true m there rest f e = e
at_step true here false m there rest f e = e
at_step false here false m there rest f e = e

at_cond : (b : Bool) (m : Mark) (ms : List Mark) (s : Point) → mark_at (cond b (m ∷ ms) ms) s ≡ cond b (first_of (if_at m s) (mark_at ms s)) (mark_at ms s)
at_cond true m ms s = refl
at_cond false m ms s = refl

none_both : (b : Bool) → let none : Option Mark = None in none ≡ cond b none none
none_both true = refl
none_both false = refl

stamp_is : (m : Mark) (s : Point) → (nat_eq m.stamp.clock s.clock && nat_eq m.stamp.node s.node) ≡ true → m.stamp ≡ s
stamp_is m s e = let t = (Decides-stamp m.stamp s).0 e in same_point m.stamp s t.0 t.1

-- where only stamps of some kind are kept
at_kept : (p : Point → Bool) (marks : List Mark) (s : Point) → mark_at (filter (λ (m : Mark). p m.stamp) marks) s ≡ cond (p s) (mark_at marks s) None
at_kept p [] s = none_both (p s)
at_kept p (m ∷ ms) s =
    at_cond (p m.stamp) m (filter (λ (m : Mark). p m.stamp) ms) s
    ∙ at_step (p m.stamp) (p s) (nat_eq m.stamp.clock s.clock && nat_eq m.stamp.node s.node) m (mark_at (filter (λ (m : Mark). p m.stamp) ms) s) (mark_at ms s)
    (λ e. ap p (stamp_is m s e)) (at_kept p ms s)

-- ---- a mark in its place

at_three : (b c same : Bool) (x : Mark) (was : Option Mark) → (same ≡ true → was ≡ None)
    → ((b ≡ true) × (c ≡ false) × (same ≡ false)) ⊎ (((b ≡ false) × (c ≡ false) × (same ≡ true)) ⊎ ((b ≡ false) × (c ≡ true) × (same ≡ false)))
    → first_of (cond b was None) (first_of (cond same (Some x) None) (cond c was None)) ≡ first_of was (cond same (Some x) None)
at_three b c same x was none t = elim t [
  | inl below ↦ rw (below.0, below.1, below.2) refl
  | inr rest ↦ elim rest [
    | inl here ↦ rw (here.0, here.1, here.2, none here.2) refl
    | inr past ↦ rw (past.0, past.1, past.2) (sym (first_none was))
  ]
]

at_placed : (marks : List Mark) (x : Mark) (s : Point) → mark_at marks x.stamp ≡ None → mark_at (marks_below marks x.stamp ++ x ∷ marks_past marks x.stamp) s ≡ first_of (mark_at marks s) (if_at x s)
at_placed marks x s none =
    at_append (marks_below marks x.stamp) (x ∷ marks_past marks x.stamp) s
    ∙ ap (λ (m : Option Mark). first_of m (first_of (if_at x s) (mark_at (marks_past marks x.stamp) s))) (at_kept (λ t. is_before t x.stamp) marks s)
    ∙ ap (λ (m : Option Mark). first_of (cond (is_before s x.stamp) (mark_at marks s) None) (first_of (if_at x s) m)) (at_kept (λ t. is_before x.stamp t) marks s)
    ∙ at_three (is_before s x.stamp) (is_before x.stamp s) (nat_eq x.stamp.clock s.clock && nat_eq x.stamp.node s.node) x (mark_at marks s)
    (λ e. ap (λ (t : Point). mark_at marks t) (sym (stamp_is x s e)) ∙ none) (three s x.stamp)

pub placed : (marks one two now : List Mark) (x : Mark) → mark_at marks x.stamp ≡ None → one ≡ marks_below marks x.stamp → two ≡ one ++ x ∷ [] → now ≡ two ++ marks_past marks x.stamp → IsMarkedBy marks (if_at x) now
placed marks one two now x none a b c = subst (λ (ms : List Mark). IsMarkedBy marks (if_at x) ms) (sym is) (λ told are. record {
  rise = placed_pairs (λ (y z : Mark). Before y.stamp z.stamp) (λ (m : Mark). is_before m.stamp x.stamp) (λ (m : Mark). is_before x.stamp m.stamp) marks x are.rise
      (λ y e. before_true y.stamp x.stamp e) (λ y e. before_true x.stamp y.stamp e) (λ y z e f. before_both y.stamp x.stamp z.stamp e f);
  each = λ s. at_placed marks x s none ∙ ap (λ (m : Option Mark). first_of m (if_at x s)) (are.each s);
})
  where
    is : now ≡ marks_below marks x.stamp ++ x ∷ marks_past marks x.stamp
    is = c ∙ ap (λ (ms : List Mark). ms ++ marks_past marks x.stamp) (b ∙ ap (λ (ms : List Mark). ms ++ x ∷ []) a) ∙ append_assoc (marks_below marks x.stamp) (x ∷ []) (marks_past marks x.stamp)

-- where a mark has the stamp already
stays : (was : Option Mark) (same : Bool) (x m : Mark) → (same ≡ true → was ≡ Some m) → was ≡ first_of was (cond same (Some x) None)
stays was false x m f = sym (first_none was)
stays was true x m f = rw (f refl) refl

pub placed_before : (marks : List Mark) (x m : Mark) → mark_at marks x.stamp ≡ Some m → IsMarkedBy marks (if_at x) marks
placed_before marks x m some told are = record {
  rise = are.rise;
  each = λ s. are.each s ∙ stays (told s) (nat_eq x.stamp.clock s.clock && nat_eq x.stamp.node s.node) x m
      (λ e. sym (are.each s) ∙ ap (λ (t : Point). mark_at marks t) (sym (stamp_is x s e)) ∙ some);
}

-- ---- more and more marks

pub marked_none : (marks : List Mark) (more : Point → Option Mark) → ((s : Point) → more s ≡ None) → IsMarkedBy marks more marks
marked_none marks more none told are = record {
  rise = are.rise;
  each = λ s. are.each s ∙ sym (ap (λ (m : Option Mark). first_of (told s) m) (none s) ∙ first_none (told s));
}

pub marked_same : (was now : List Mark) (f g : Point → Option Mark) → ((s : Point) → f s ≡ g s) → IsMarkedBy was f now → IsMarkedBy was g now
marked_same was now f g same by told are = let r = by told are in record {
  rise = r.rise;
  each = λ s. r.each s ∙ ap (λ (m : Option Mark). first_of (told s) m) (same s);
}

pub marked_then : (was more now : List Mark) (f g h : Point → Option Mark) → IsMarkedBy was f more → IsMarkedBy more g now → ((s : Point) → h s ≡ first_of (f s) (g s)) → IsMarkedBy was h now
marked_then was more now f g h by then same told are = let r = then (λ s. first_of (told s) (f s)) (by told are) in record {
  rise = r.rise;
  each = λ s. r.each s ∙ sym (first_twice (told s) (f s) (g s)) ∙ ap (λ (m : Option Mark). first_of (told s) m) (sym (same s));
}

pub mark_more : (was more now told : List Mark) (m : Mark) → IsMarkedBy was (mark_at told) more → IsMarkedBy more (if_at m) now → IsMarkedBy was (mark_at (told ++ m ∷ [])) now
mark_more was more now told m by then = marked_then was more now (mark_at told) (if_at m) (mark_at (told ++ m ∷ [])) by then (λ s. at_last told m s)

pub row_more : (was more now : List Mark) (rows : List Row) (row : Row) (o : List ℕ) → IsMarkedBy was (mark_in_rows rows o) more → IsMarkedBy more (mark_by_row row o) now → IsMarkedBy was (mark_in_rows (rows ++ row ∷ []) o) now
row_more was more now rows row o by then = marked_then was more now (mark_in_rows rows o) (mark_by_row row o) (mark_in_rows (rows ++ row ∷ []) o) by then (λ s. rows_last rows row o s)

-- ---- marks above a floor

not_itself : (s t : Point) → s ≡ t → Before s t → ⊥
not_itself s t e b = let bad : Before t t = subst (λ (q : Point). Before q t) e b in grind arith

-- where they rise, each mark is the one at its stamp
at_one : (marks : List Mark) (mark : Mark) → MarksRise marks → Contains marks mark → mark_at marks mark.stamp ≡ Some mark
at_one [] mark rise c = absurd (contains_none mark c)
at_one (m ∷ ms) mark rise c = elim (first_or_later m ms mark c) [
  | inl same ↦ first_left (if_at m mark.stamp) (mark_at ms mark.stamp) mark (at_itself m mark same)
  | inr later ↦
      first_right (if_at m mark.stamp) (mark_at ms mark.stamp) (elsewhere m mark.stamp (λ e. not_itself m.stamp mark.stamp e (pairs_first (λ (a b : Mark). Before a.stamp b.stamp) m ms mark rise later)))
      ∙ at_one ms mark (pairs_later (λ (a b : Mark). Before a.stamp b.stamp) m ms rise) later
]
  where
    at_itself : (m mark : Mark) → m ≡ mark → if_at m mark.stamp ≡ Some mark
    at_itself m mark e = subst (λ (x : Mark). if_at m x.stamp ≡ Some x) e (picks (nat_eq m.stamp.clock m.stamp.clock && nat_eq m.stamp.node m.stamp.node) m ((Decides-stamp m.stamp m.stamp).1 (refl, refl)))

    elsewhere : (m : Mark) (s : Point) → (m.stamp ≡ s → ⊥) → if_at m s ≡ None
    elsewhere m s other = by (nat_eq m.stamp.clock s.clock && nat_eq m.stamp.node s.node) (λ e. other (stamp_is m s e))
      where
        by : (b : Bool) → (b ≡ true → ⊥) → cond b (Some m) None ≡ None
        by true f = absurd (f refl)
        by false f = refl

pub record AreAbove (floor : List ℕ) (marks kept : List Mark) : Type 0 where
  pub rise : MarksRise marks → MarksRise kept
  pub each : (mark : Mark) → Contains kept mark ↔ (Contains marks mark × (Covers floor mark.stamp → ⊥))

pub above_more : (floor : List ℕ) (marks kept : List Mark) (mark : Mark) → (Covers floor mark.stamp → ⊥) → AreAbove floor marks kept → AreAbove floor (marks ++ mark ∷ []) (kept ++ mark ∷ [])
above_more floor marks kept mark free are = record {
  rise = λ r. last_pairs (λ (a b : Mark). Before a.stamp b.stamp) kept mark (are.rise (pairs_before (λ (a b : Mark). Before a.stamp b.stamp) marks mark r)) (λ x c. pairs_last (λ (a b : Mark). Before a.stamp b.stamp) marks mark x r ((are.each x).0 c).0);
  each = λ x. (
    λ c. elim (Contains-append_cases kept (mark ∷ []) x c) [
      | inl old ↦ let t = (are.each x).0 old in (Contains-append_left marks (mark ∷ []) x t.0, t.1)
      | inr new ↦ (Contains-append_right marks (mark ∷ []) x new, subst (λ (m : Mark). Covers floor m.stamp → ⊥) (one_item mark x new) free)
    ],
    λ t. elim (Contains-append_cases marks (mark ∷ []) x t.0) [
      | inl old ↦ Contains-append_left kept (mark ∷ []) x ((are.each x).1 (old, t.1))
      | inr new ↦ Contains-append_right kept (mark ∷ []) x new
    ],
  );
}

pub above_less : (floor : List ℕ) (marks kept : List Mark) (mark : Mark) → Covers floor mark.stamp → AreAbove floor marks kept → AreAbove floor (marks ++ mark ∷ []) kept
above_less floor marks kept mark covered are = record {
  rise = λ r. are.rise (pairs_before (λ (a b : Mark). Before a.stamp b.stamp) marks mark r);
  each = λ x. (
    λ c. let t = (are.each x).0 c in (Contains-append_left marks (mark ∷ []) x t.0, t.1),
    λ t. elim (Contains-append_cases marks (mark ∷ []) x t.0) [
      | inl old ↦ (are.each x).1 (old, t.1)
      | inr new ↦ absurd (t.1 (subst (λ (m : Mark). Covers floor m.stamp) (one_item mark x new) covered))
    ],
  );
}

-- the marks of the table are those that the node knows and the floor does not cover
pub marks_are : (j : List Entry) (o floor : List ℕ) (marks items kept : List Mark) → floor ≡ floor_of j → items ≡ marks → AreMarks (known_mark j o) marks
    → ((mark : Mark) → Contains kept mark ↔ (Contains items mark × (Covers floor mark.stamp → ⊥))) → (mark : Mark) → Contains kept mark ↔ IsMark j o mark
marks_are j o floor marks items kept is same are each mark = (
  λ c. let t = (each mark).0 c in (
    sym (are.each mark.stamp) ∙ at_one marks mark are.rise (subst (λ (ms : List Mark). Contains ms mark) same t.0),
    subst (λ (f : List ℕ). Covers f mark.stamp → ⊥) is t.1,
  ),
  λ m. (each mark).1 (
    subst (λ (ms : List Mark). Contains ms mark) (sym same) (at_marks marks mark.stamp mark (are.each mark.stamp ∙ m.0)).0,
    subst (λ (f : List ℕ). Covers f mark.stamp → ⊥) (sym is) m.1,
  ),
)

-- ---- what an event tells

pub row_same : (row : Row) (o : List ℕ) (marks : List Mark) (s : Point) → marks ≡ row.marks → row.name ≡ o → mark_at marks s ≡ mark_by_row row o s
row_same row o marks s is name = ap (λ (ms : List Mark). mark_at ms s) is ∙ sym (chosen (bytes_eq row.name o) (mark_at row.marks s) ((bytes_eq-Decides row.name o).1 name))
  where
    chosen : (b : Bool) (m : Option Mark) → b ≡ true → cond b m None ≡ m
    chosen true m e = refl
    chosen false m e = absurd (cc)

pub write_same : (write : WriteRec) (o : List ℕ) (s : Point) → write.name ≡ o → if_at (mark_of write) s ≡ mark_by_write write o s
write_same write o s name = chosen (bytes_eq write.name o) (nat_eq write.stamp.clock s.clock && nat_eq write.stamp.node s.node) ((bytes_eq-Decides write.name o).1 name)
  where
    chosen : (b c : Bool) → b ≡ true → cond c (Some (mark_of write)) None ≡ cond (b && c) (Some (mark_of write)) None
    chosen true c e = refl
    chosen false c e = absurd (cc)

pub told_precise : (was now : List Mark) (msg : Msg) (at from to : List ℕ) (write : WriteRec) (o : List ℕ) → msg.kind ≡ Precise from to write → IsMarkedBy was (mark_by_write write o) now → IsMarkedBy was (mark_told (Accepted msg at) o) now
told_precise was now msg at from to write o is by = marked_same was now (mark_by_write write o) (mark_told (Accepted msg at) o) (λ s. ap (λ (k : Kind). mark_in k o s) (sym is)) by

pub told_rows : (was now : List Mark) (msg : Msg) (at to floor : List ℕ) (target : List Span) (rows : List Row) (o : List ℕ) → msg.kind ≡ Checkpoint to target floor rows → IsMarkedBy was (mark_in_rows rows o) now → IsMarkedBy was (mark_told (Accepted msg at) o) now
told_rows was now msg at to floor target rows o is by = marked_same was now (mark_in_rows rows o) (mark_told (Accepted msg at) o) (λ s. ap (λ (k : Kind). mark_in k o s) (sym is)) by

-- ---- conflicts

abbrev Comes : Point × Point → Point × Point → Type 0
Comes p q = Before p.0 q.0 ⊎ ((p.0 ≡ q.0) × Before p.1 q.1)

missed_by : (prev : Option Point) (s : Point) → is_missed prev s ≡ true → MissedBy prev s
missed_by None s e = tt
missed_by (Some p) s e = before_true p s e

by_missed : (prev : Option Point) (s : Point) → MissedBy prev s → is_missed prev s ≡ true
by_missed None s m = refl
by_missed (Some p) s m = true_before p s m

abbrev Conflict : Mark → Mark → Type 0
Conflict x y = MissedBy y.prev x.stamp × Before x.stamp y.stamp

conflict_is : (x y : Mark) → is_conflict x y ≡ true → Conflict x y
conflict_is x y e = let t = both_true (is_missed y.prev x.stamp) (is_before x.stamp y.stamp) e in (missed_by y.prev x.stamp t.0, before_true x.stamp y.stamp t.1)

is_one : (x y : Mark) → Conflict x y → is_conflict x y ≡ true
is_one x y c = rw (by_missed y.prev x.stamp c.0, true_before x.stamp y.stamp c.1) refl

abbrev PairIn : List Mark → List Mark → Point × Point → Type 0
PairIn xs ys p = (x : Mark) × (y : Mark) × Contains xs x × Contains ys y × (x.stamp ≡ p.0) × (y.stamp ≡ p.1) × Conflict x y

with_has : (x : Mark) (ys : List Mark) (p : Point × Point) → Contains (pairs_with x ys) p → (y : Mark) × Contains ys y × (x.stamp ≡ p.0) × (y.stamp ≡ p.1) × Conflict x y
with_has x [] p c = absurd (contains_none p c)
with_has x (y ∷ ys) p c = elim (bool_cases (is_conflict x y)) [
  | inl is ↦ elim (first_or_later (x.stamp, y.stamp) (pairs_with x ys) p (subst (λ (b : Bool). Contains (cond b ((x.stamp, y.stamp) ∷ pairs_with x ys) (pairs_with x ys)) p) is c)) [
    | inl same ↦ (y, is_first y ys, ap (λ (q : Point × Point). q.0) same, ap (λ (q : Point × Point). q.1) same, conflict_is x y is)
    | inr later ↦ let r = with_has x ys p later in (r.0, is_later y ys r.0 r.1, r.2, r.3, r.4)
  ]
  | inr is_none ↦ let r = with_has x ys p (subst (λ (b : Bool). Contains (cond b ((x.stamp, y.stamp) ∷ pairs_with x ys) (pairs_with x ys)) p) is_none c) in (r.0, is_later y ys r.0 r.1, r.2, r.3, r.4)
]

has_with : (x : Mark) (ys : List Mark) (y : Mark) → Contains ys y → Conflict x y → Contains (pairs_with x ys) (x.stamp, y.stamp)
has_with x [] y c k = absurd (contains_none y c)
has_with x (z ∷ ys) y c k = elim (bool_cases (is_conflict x z)) [
  | inl is ↦ rw is (elim (first_or_later z ys y c) [
    | inl same ↦ subst (λ (w : Mark). Contains ((x.stamp, z.stamp) ∷ pairs_with x ys) (x.stamp, w.stamp)) same (is_first (x.stamp, z.stamp) (pairs_with x ys))
    | inr later ↦ is_later (x.stamp, z.stamp) (pairs_with x ys) (x.stamp, y.stamp) (has_with x ys y later k)
  ])
  | inr is_none ↦ rw is_none (elim (first_or_later z ys y c) [
    | inl same ↦ absurd (let t : is_conflict x z ≡ true = subst (λ (w : Mark). is_conflict x w ≡ true) (sym same) (is_one x y k) in cc)
    | inr later ↦ has_with x ys y later k
  ])
]

with_rise : (x : Mark) (ys : List Mark) → MarksRise ys → AllPairs Comes (pairs_with x ys)
with_rise x [] rise = pairs_none Comes
with_rise x (y ∷ ys) rise = elim (bool_cases (is_conflict x y)) [
  | inl is ↦ rw is (pairs_cons Comes (x.stamp, y.stamp) (pairs_with x ys)
      (λ p c. let r = with_has x ys p c in inr (r.2, subst (λ (t : Point). Before y.stamp t) r.3 (pairs_first (λ (a b : Mark). Before a.stamp b.stamp) y ys r.0 rise r.1)))
      (with_rise x ys (pairs_later (λ (a b : Mark). Before a.stamp b.stamp) y ys rise)))
  | inr is_none ↦ rw is_none (with_rise x ys (pairs_later (λ (a b : Mark). Before a.stamp b.stamp) y ys rise))
]

of_has : (xs ys : List Mark) (p : Point × Point) → Contains (pairs_of xs ys) p → PairIn xs ys p
of_has [] ys p c = absurd (contains_none p c)
of_has (x ∷ xs) ys p c = elim (Contains-append_cases (pairs_with x ys) (pairs_of xs ys) p c) [
  | inl here ↦ let r = with_has x ys p here in (x, r.0, is_first x xs, r.1, r.2, r.3, r.4)
  | inr there ↦ let r = of_has xs ys p there in (r.0, r.1, is_later x xs r.0 r.2, r.3, r.4, r.5, r.6)
]

has_of : (xs ys : List Mark) (x y : Mark) → Contains xs x → Contains ys y → Conflict x y → Contains (pairs_of xs ys) (x.stamp, y.stamp)
has_of [] ys x y c d k = absurd (contains_none x c)
has_of (z ∷ xs) ys x y c d k = elim (first_or_later z xs x c) [
  | inl same ↦ Contains-append_left (pairs_with z ys) (pairs_of xs ys) (x.stamp, y.stamp) (subst (λ (w : Mark). Contains (pairs_with w ys) (x.stamp, y.stamp)) (sym same) (has_with x ys y d k))
  | inr later ↦ Contains-append_right (pairs_with z ys) (pairs_of xs ys) (x.stamp, y.stamp) (has_of xs ys x y later d k)
]

of_rise : (xs ys : List Mark) → MarksRise xs → MarksRise ys → AllPairs Comes (pairs_of xs ys)
of_rise [] ys a b = pairs_none Comes
of_rise (x ∷ xs) ys a b =
    pairs_append Comes (pairs_with x ys) (pairs_of xs ys) (with_rise x ys b) (of_rise xs ys (pairs_later (λ (a b : Mark). Before a.stamp b.stamp) x xs a) b)
    (λ p q c d.
    let one = with_has x ys p c in
    let two = of_has xs ys q d in
    inl (subst (λ (s : Point). Before s q.0) one.2 (subst (λ (t : Point). Before x.stamp t) two.4 (pairs_first (λ (a b : Mark). Before a.stamp b.stamp) x xs two.0 a two.2))))

pub conflicts_are : (marks : List Mark) (pairs : List (Point × Point)) → pairs ≡ pairs_of marks marks → MarksRise marks → AreConflicts (λ (mark : Mark). Contains marks mark) pairs
conflicts_are marks pairs is rise = subst (λ (ps : List (Point × Point)). AreConflicts (λ (mark : Mark). Contains marks mark) ps) (sym is) (
  λ x y c d missed before. has_of marks marks x y c d (missed, before),
  λ s t c. let r = of_has marks marks (s, t) c in (
    r.0,
    r.1,
    r.2,
    r.3,
    r.4,
    r.5,
    subst (λ (p : Point). MissedBy r.1.prev p) r.4 r.6.0,
    subst (λ (p : Point). Before p t) r.4 (subst (λ (p : Point). Before r.0.stamp p) r.5 r.6.1),
  ),
  of_rise marks marks rise rise,
)

-- the same of other words for the marks
pub conflicts_same : (P Q : Mark → Type 0) (pairs : List (Point × Point)) → ((mark : Mark) → P mark ↔ Q mark) → AreConflicts P pairs → AreConflicts Q pairs
conflicts_same P Q pairs same are = (
  λ x y c d. are.0 x y ((same x).1 c) ((same y).1 d),
  λ s t c. let r = are.1 s t c in (r.0, r.1, (same r.0).0 r.2, (same r.1).0 r.3, r.4, r.5, r.6, r.7),
  are.2,
)

-- ---- pairs

pub pairs_more : (marks : List Mark) (i : ℕ) (x : Mark) (was now all : List (Point × Point)) → i < length marks → x ≡ get_or marks i x → now ≡ was ++ pairs_with x marks
    → was ++ pairs_of (drop i marks) marks ≡ all → now ++ pairs_of (drop (i + 1) marks) marks ≡ all
pairs_more marks i x was now all lt is so old =
    ap (λ (ps : List (Point × Point)). ps ++ pairs_of (drop (i + 1) marks) marks) so
    ∙ append_assoc was (pairs_with x marks) (pairs_of (drop (i + 1) marks) marks)
    ∙ ap (λ (ms : List Mark). was ++ pairs_of ms marks) (ap (λ (m : Mark). m ∷ drop (i + 1) marks) is ∙ sym (drop_more marks i x lt))
    ∙ old

pub pairs_whole : (marks : List Mark) (i : ℕ) (was all : List (Point × Point)) → length marks ≤ i → was ++ pairs_of (drop i marks) marks ≡ all → was ≡ all
pairs_whole marks i was all le old = sym (append-nil was) ∙ ap (λ (ms : List Mark). was ++ pairs_of ms marks) (sym (drop_all i marks le)) ∙ old
