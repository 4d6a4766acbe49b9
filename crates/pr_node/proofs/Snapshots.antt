-- A checkpoint that is built of the stores is the node's snapshot.
use Rattle.std.proofs.Common.{◌≡◌, ℕ, ◌<◌, ◌≤◌, ◌⊎◌, inl, inr, zero, suc, List, [], ◌∷◌, ◌++◌, not, cond, refl, sym, ◌∙◌, ap, subst, arith, length, get_or}
use Rattle.std.specs.Prelude.{Bool, true, false, IsTrue, nat_le, ◌↔◌, ◌||◌, Option, None, Some, Contains, AllPairs, All}
use Rattle.std.specs.List.{list_any}
use Rattle.std.proofs.lemmas.Bool.Decides.{nat_tests}
use Rattle.std.proofs.lemmas.List.{get_or_default}
use Rattle.std.proofs.lemmas.List.Elements.{Contains-append_left, Contains-append_right, Contains-append_cases}
use Rattle.std.proofs.lemmas.List.Kept.{AllPairs-cons}
use Rattle.pr_stamps.specs.Point.{Point, Before, is_before}
use Rattle.pr_stamps.specs.declared.mark.Mark.{Mark}
use Rattle.pr_names.specs.Name.{IsName}
use Rattle.pr_names.specs.Order.{name_lt}
use Rattle.pr_names.specs.Span.{Span}
use Rattle.pr_vectors.specs.Vector.{clock_of, Covers, is_covered}
use Rattle.pr_sets.specs.Spans.{has}
use Rattle.pr_inval.specs.declared.kind.Kind.{Kind}
use Rattle.pr_inval.specs.declared.kind.Kind.TheVariants.{Precise, Imprecise, Checkpoint, Body}
use Rattle.pr_inval.specs.declared.row.Row.{Row}
use Rattle.pr_gaps.specs.Gaps.{Told, set_at, set_or}
use Rattle.pr_stamps.specs.declared.newest.Newest.{Newest}
use Rattle.pr_marks.specs.Row.{Rises}
use Rattle.pr_marks.specs.Table.{Table, marks_of, names_of, newest_of}
use Rattle.pr_snap.proofs.Names.{Rise}
use Rattle.pr_snap.specs.Build.{IsBuilt, IsPreciseName, row_in, row_with, rows_at}
use Rattle.pr_story.specs.declared.entry.Entry.{Entry}
use Rattle.pr_story.specs.History.{current_clock, current_vector}
use Rattle.pr_story.specs.Knowledge.{IsMark, WasNamed, floor_of, first_of, known_mark, mark_at}
use Rattle.pr_story.specs.Search.{IsNewestOf}
use Rattle.pr_story.specs.Told.{IsPrecise}
use Rattle.pr_sets.specs.Sets.{first_with, rest_of, set_of, AreApart}
use Rattle.pr_story.specs.Turns.{IsSnapshot, IsSnapshotRow}
use Rattle.pr_story.proofs.Sorted.{contains_none, first_or_later, is_first, is_later}
use Rattle.pr_node.specs.Ties.{IsGapsOf, IsMarksOf}
use Rattle.pr_snap.proofs.Choice.{by_test}
use Rattle.pr_node.proofs.Clocks.{below_or_not, clock_out}
use Rattle.pr_node.proofs.Marked.{is_at}
use Rattle.pr_snap.proofs.Found.{comes_first, names_later}
use Rattle.pr_snap.proofs.Known.{newest_held}

some_is : {A : Type 0} (x y : A) → Some x ≡ Some y → x ≡ y
some_is x y e = cc

-- ---- sets and their numbers

-- the name is in none of the sets where it is in the rest
abbrev IsRest : List (List Span) → (List ℕ → Bool) → List ℕ → Type 0
IsRest sets rest o = (rest o ≡ true → list_any (λ set. has set o) sets ≡ false) × (list_any (λ set. has set o) sets ≡ false → rest o ≡ true)

or_first : (p q : Bool) → p ≡ true → (p || q) ≡ true
or_first true q h = refl
or_first false q h = cc

held_later : (sets : List (List Span)) (rest : List ℕ → Bool) (i : ℕ) (o : List ℕ) → i ≤ length sets → IsTrue (set_or sets rest i o)
    → IsTrue (rest o) ⊎ ((k : ℕ) × (k < length sets) × IsTrue (has (get_or sets k []) o))
held_later [] rest i o le h = inl h
held_later (set ∷ sets) rest zero o le h = inr (zero, (omega arith), h)
held_later (set ∷ sets) rest (suc i) o le h = elim (held_later sets rest i o (omega (arith, le)) h) [
  | inl r ↦ inl r
  | inr k ↦ let lt : k.0 < length sets = k.1 in inr (suc k.0, omega (arith, lt), k.2)
]

apart_later : (set : List Span) (sets : List (List Span)) → AreApart (set ∷ sets) → AreApart sets
apart_later set sets apart i k d lt within = apart (suc i) (suc k) d (omega (arith, lt)) (omega (arith, within))

rest_later : (set : List Span) (sets : List (List Span)) (rest : List ℕ → Bool) (o : List ℕ) → has set o ≡ false → IsRest (set ∷ sets) rest o → IsRest sets rest o
rest_later set sets rest o e is =
    let same : list_any (λ (s : List Span). has s o) (set ∷ sets) ≡ list_any (λ (s : List Span). has s o) sets = ap (λ (b : Bool). b || list_any (λ (s : List Span). has s o) sets) e in
    (λ r. sym same ∙ is.0 r, λ none. is.1 (same ∙ none))

-- where the sets share no names, the name's own set is the one that is numbered so
pub set_same : (sets : List (List Span)) (rest : List ℕ → Bool) (i : ℕ) (o : List ℕ) → AreApart sets → IsName o → IsRest sets rest o → i ≤ length sets → IsTrue (set_or sets rest i o) → set_or sets rest i ≡ first_with sets rest o
set_same [] rest i o apart name is le h = refl
set_same (set ∷ sets) rest zero o apart name is le h = sym (ap (λ (b : Bool). cond b (has set) (first_with sets rest o)) h)
set_same (set ∷ sets) rest (suc i) o apart name is le h = by_test (has set o)
    (λ t. absurd (elim (held_later sets rest i o (omega (arith, le)) h) [
      | inl r ↦
          let none : list_any (λ (s : List Span). has s o) (set ∷ sets) ≡ false = is.0 r in
          let some : list_any (λ (s : List Span). has s o) (set ∷ sets) ≡ true = or_first (has set o) (list_any (λ (s : List Span). has s o) sets) t in
          let bad : true ≡ false = sym some ∙ none in cc
      | inr k ↦ let lt : k.0 < length sets = k.1 in apart zero (suc k.0) [] (omega arith) (omega (arith, lt)) (o, name, t, k.2)
    ]))
    (λ f. set_same sets rest i o (apart_later set sets apart) name (rest_later set sets rest o f is) (omega (arith, le)) h ∙ sym (ap (λ (b : Bool). cond b (has set) (first_with sets rest o)) f))

-- each name's set has a number
pub number_of : (sets : List (List Span)) (rest : List ℕ → Bool) (o : List ℕ) → IsRest sets rest o → (i : ℕ) × (i ≤ length sets) × (set_or sets rest i ≡ first_with sets rest o) × IsTrue (set_or sets rest i o)
number_of [] rest o is = (zero, (omega arith), refl, is.1 refl)
number_of (set ∷ sets) rest o is = by_test (has set o)
    (λ t. (zero, (omega arith), sym (ap (λ (b : Bool). cond b (has set) (first_with sets rest o)) t), t))
    (λ f.
    let k = number_of sets rest o (rest_later set sets rest o f is) in
    let le : k.0 ≤ length sets = k.1 in
    (suc k.0, omega (arith, le), k.2 ∙ sym (ap (λ (b : Bool). cond b (has set) (first_with sets rest o)) f), k.3))

nots : (b : Bool) → (not b ≡ true → b ≡ false) × (b ≡ false → not b ≡ true)
nots true = (λ e. cc, λ e. cc)
nots false = (λ e. refl, λ e. refl)

pub rest_is : (sets : List (List Span)) (o : List ℕ) → IsRest sets (rest_of sets) o
rest_is sets o = nots (list_any (λ (s : List Span). has s o) sets)

pub covered_node : (j : List Entry) (p : Point) → Covers (current_vector j) p → p.node < 32
covered_node j p c = elim (below_or_not p.node 32) [
  | inl lt ↦ lt
  | inr out ↦ let z : clock_of (current_vector j) p.node ≡ 0 = clock_out (current_clock j) p.node out in absurd (omega (arith, z, c.0, c.1))
]

same_cover : (v w : List ℕ) (p : Point) → v ≡ w → Covers v p → Covers w p
same_cover v w p e c = subst (λ (x : List ℕ). Covers x p) e c

precise_name : (n : ℕ) (j : List Entry) (g : Told) (o : List ℕ) → IsName o → IsGapsOf n j g → IsPreciseName g o ↔ IsPrecise n j (set_of g.sets o)
precise_name n j g o name f = (
  λ p.
      let e : set_at g.sets p.0 ≡ set_of g.sets o = set_same g.sets (rest_of g.sets) p.0 o f.apart name (rest_is g.sets o) p.1 p.2 in
      subst (λ (set : List ℕ → Bool). IsPrecise n j set) e (λ q c. (f.told p.0 q p.1 (covered_node j q c)).0 (p.3 q (covered_node j q c) (same_cover (current_vector j) g.vector q (sym f.vector) c))),
  λ p.
      let k = number_of g.sets (rest_of g.sets) o (rest_is g.sets o) in
      let precise : IsPrecise n j (set_at g.sets k.0) = subst (λ (set : List ℕ → Bool). IsPrecise n j set) (sym k.2) p in
      (k.0, k.1, k.3, λ q lt c. (f.told k.0 q k.1 lt).1 (precise q (same_cover g.vector (current_vector j) q f.vector c))),
)

-- ---- marks

mark_contained : (xs : List Mark) (s : Point) (x : Mark) → mark_at xs s ≡ Some x → Contains xs x
mark_contained [] s x is = cc
mark_contained (m ∷ ms) s x is = by (is_at m.stamp s) (mark_contained ms s x) is
  where
    by : (b : Bool) → (mark_at ms s ≡ Some x → Contains ms x) → first_of (cond b (Some m) None) (mark_at ms s) ≡ Some x → Contains (m ∷ ms) x
    by true later e = subst (λ (y : Mark). Contains (m ∷ ms) y) (some_is m x e) (is_first m ms)
    by false later e = is_later m ms x (later e)

at_self : (s : Point) → is_at s s ≡ true
at_self s = grind (arith, nat_tests)

not_at : (s t : Point) → IsTrue (is_before s t) → is_at s t ≡ false
not_at s t before = grind (arith, nat_tests)

marks_later : (x : Mark) (xs : List Mark) → Rises (x ∷ xs) → Rises xs
marks_later x xs rise i k d lt within = rise (suc i) (suc k) d (omega arith) (omega arith)

mark_first : (x : Mark) (xs : List Mark) (y : Mark) → Rises (x ∷ xs) → Contains xs y → IsTrue (is_before x.stamp y.stamp)
mark_first x xs y rise c = let lt : c.0 < length xs = c.1 in subst (λ (z : Mark). IsTrue (is_before x.stamp z.stamp)) c.2 (rise zero (suc c.0) y (omega arith) (omega arith))

mark_found : (xs : List Mark) (x : Mark) → Rises xs → Contains xs x → mark_at xs x.stamp ≡ Some x
mark_found [] x rise c = absurd (contains_none x c)
mark_found (m ∷ ms) x rise c = elim (first_or_later m ms x c) [
  | inl same ↦ subst (λ (y : Mark). mark_at (m ∷ ms) y.stamp ≡ Some y) same (ap (λ (b : Bool). first_of (cond b (Some m) None) (mark_at ms m.stamp)) (at_self m.stamp))
  | inr later ↦ ap (λ (b : Bool). first_of (cond b (Some m) None) (mark_at ms x.stamp)) (not_at m.stamp x.stamp (mark_first m ms x rise later)) ∙ mark_found ms x (marks_later m ms rise) later
]

cond_some : (b : Bool) (k : Option Mark) (x : Mark) → cond b None k ≡ Some x → (b ≡ false) × (k ≡ Some x)
cond_some true k x e = cc
cond_some false k x e = (refl, e)

covered_tells : (v : List ℕ) (s : Point) → Covers v s → is_covered v s ≡ true
covered_tells v s c = le_tells s.clock (clock_of v s.node) c.1
  where
    le_tells : (a b : ℕ) → a ≤ b → nat_le a b ≡ true
    le_tells a b le = grind (arith, nat_tests)

covered_or_zero : (v : List ℕ) (s : Point) → is_covered v s ≡ true → Covers v s ⊎ (s.clock ≡ 0)
covered_or_zero v s e = by s.clock (clock_of v s.node) e
  where
    by : (a b : ℕ) → nat_le a b ≡ true → ((1 ≤ a) × (a ≤ b)) ⊎ (a ≡ 0)
    by zero b e = inr refl
    by (suc a) b e = inl (omega arith, grind (arith, nat_tests))

pub is_mark : (j : List Entry) (m : Table) (o : List ℕ) (mark : Mark) → IsMarksOf j m → Contains (marks_of m o) mark ↔ IsMark j o mark
is_mark j m o mark f = (
  λ c.
      let two = cond_some (is_covered m.floor mark.stamp) (known_mark j o mark.stamp) mark (sym (f.marks o mark.stamp) ∙ mark_found (marks_of m o) mark (f.rises o) c) in
      (two.1, λ v. let bad : is_covered m.floor mark.stamp ≡ true = covered_tells m.floor mark.stamp (same_cover (floor_of j) m.floor mark.stamp (sym f.floor) v) in let no_it : is_covered m.floor mark.stamp ≡ false = two.0 in cc),
  λ k. mark_contained (marks_of m o) mark.stamp mark (f.marks o mark.stamp ∙ by_test (is_covered m.floor mark.stamp)
      (λ t. absurd (elim (covered_or_zero m.floor mark.stamp t) [
        | inl v ↦ k.1 (same_cover m.floor (floor_of j) mark.stamp f.floor v)
        | inr z ↦ let none : known_mark j o mark.stamp ≡ None = f.from_one o mark.stamp z in let some : known_mark j o mark.stamp ≡ Some mark = k.0 in cc
      ]))
      (λ e. ap (λ (b : Bool). cond b None (known_mark j o mark.stamp)) e ∙ k.0)),
)

-- ---- rows

-- the row is that of a known name outside the target
pub record IsRowOf (m : Table) (target : List Span) (row : Row) : Type 0 where
  pub outside : has target row.name ≡ false
  pub newest : newest_of m row.name ≡ Some (record { stamp = row.newest; gone = row.gone })
  pub marks : row.marks ≡ marks_of m row.name

row_in_is : (m : Table) (target : List Span) (o : List ℕ) (row : Row) → Contains (row_in m target o) row → IsRowOf m target row × (row.name ≡ o)
row_in_is m target o row c = by (has target o) (newest_of m o) refl refl c
  where
    by : (b : Bool) (newest : Option Newest) → has target o ≡ b → newest_of m o ≡ newest → Contains (cond b [] (row_with m o newest)) row → IsRowOf m target row × (row.name ≡ o)
    by true newest out known c = absurd (contains_none row c)
    by false None out known c = absurd (contains_none row c)
    by false (Some n) out known c = elim (first_or_later (record { name = o; newest = n.stamp; gone = n.gone; marks = marks_of m o }) [] row c) [
      | inl same ↦ subst (λ (x : Row). IsRowOf m target x × (x.name ≡ o)) same (record { outside = out; newest = known; marks = refl }, refl)
      | inr none ↦ absurd (contains_none row none)
    ]

rows_are : (m : Table) (target : List Span) (os : List (List ℕ)) (row : Row) → Contains (rows_at m target os) row → IsRowOf m target row × Contains os row.name
rows_are m target [] row c = absurd (contains_none row c)
rows_are m target (o ∷ os) row c = elim (Contains-append_cases (row_in m target o) (rows_at m target os) row c) [
  | inl now ↦ let r = row_in_is m target o row now in (r.0, subst (λ (x : List ℕ). Contains (x ∷ os) row.name) r.1 (is_first row.name os))
  | inr later ↦ let r = rows_are m target os row later in (r.0, is_later o os row.name r.1)
]

row_there : (m : Table) (target : List Span) (os : List (List ℕ)) (o : List ℕ) (n : Newest) → Contains os o → has target o ≡ false → newest_of m o ≡ Some n → (row : Row) × Contains (rows_at m target os) row × (row.name ≡ o)
row_there m target [] o n c out known = absurd (contains_none o c)
row_there m target (x ∷ os) o n c out known = elim (first_or_later x os o c) [
  | inl same ↦
      let row : Row = record { name = o; newest = n.stamp; gone = n.gone; marks = marks_of m o } in
      let is : row_in m target o ≡ row ∷ [] = ap (λ (b : Bool). cond b [] (row_with m o (newest_of m o))) out ∙ ap (λ (q : Option Newest). row_with m o q) known in
      (row, Contains-append_left (row_in m target x) (rows_at m target os) row (subst (λ (y : List ℕ). Contains (row_in m target y) row) (sym same) (subst (λ (rows : List Row). Contains rows row) (sym is) (is_first row []))), refl)
  | inr later ↦ let r = row_there m target os o n later out known in (r.0, Contains-append_right (row_in m target x) (rows_at m target os) r.0 r.1, r.2)
]

rows_rise : (m : Table) (target : List Span) (os : List (List ℕ)) → Rise os → AllPairs (λ (a : Row) (b : Row). IsTrue (name_lt a.name b.name)) (rows_at m target os)
rows_rise m target [] rise = λ i k d lt within. absurd (omega (arith, within))
rows_rise m target (o ∷ os) rise = by (has target o) (newest_of m o) (rows_rise m target os (names_later o os rise))
  where
    above : (row : Row) → row.name ≡ o → All (λ (b : Row). IsTrue (name_lt row.name b.name)) (rows_at m target os)
    above row is k d lt =
        let r = rows_are m target os (get_or (rows_at m target os) k d) (k, lt, get_or_default (rows_at m target os) k (get_or (rows_at m target os) k d) d lt) in
        subst (λ (x : List ℕ). IsTrue (name_lt x (get_or (rows_at m target os) k d).name)) (sym is) (comes_first o os (get_or (rows_at m target os) k d).name rise r.1)

    by : (b : Bool) (newest : Option Newest) → AllPairs (λ (a : Row) (b : Row). IsTrue (name_lt a.name b.name)) (rows_at m target os)
        → AllPairs (λ (a : Row) (b : Row). IsTrue (name_lt a.name b.name)) (cond b [] (row_with m o newest) ++ rows_at m target os)
    by true newest later = later
    by false None later = later
    by false (Some n) later =
        let row : Row = record { name = o; newest = n.stamp; gone = n.gone; marks = marks_of m o } in
        AllPairs-cons (λ (a : Row) (b : Row). IsTrue (name_lt a.name b.name)) row (rows_at m target os) (above row refl) later

before_tells : (s t : Point) → IsTrue (is_before s t) → Before s t
before_tells s t e = grind (arith, nat_tests)

snapshot_row : (j : List Entry) (m : Table) (target : List Span) (row : Row) → IsMarksOf j m → IsRowOf m target row → IsSnapshotRow j target row
snapshot_row j m target row f r =
    let newest : IsNewestOf j row.name (Some (record { stamp = row.newest; gone = row.gone })) = subst (λ (x : Option Newest). IsNewestOf j row.name x) r.newest (f.newest row.name) in
    record {
      outside = r.outside;
      newest = newest.0;
      gone = newest.1;
      marks = subst (λ (ms : List Mark). (mark : Mark) → Contains ms mark ↔ IsMark j row.name mark) (sym r.marks) (λ mark. is_mark j m row.name mark f);
      marks_rise = subst (λ (ms : List Mark). AllPairs (λ (a : Mark) (b : Mark). Before a.stamp b.stamp) ms) (sym r.marks) (λ i k d lt within. before_tells (get_or (marks_of m row.name) i d).stamp (get_or (marks_of m row.name) k d).stamp (f.rises row.name i k d lt within));
    }

named_known : (j : List Entry) (m : Table) (o : List ℕ) (t : Point) → IsMarksOf j m → WasNamed j o t → (n : Newest) × (newest_of m o ≡ Some n)
named_known j m o t f w = by (newest_of m o) (f.newest o)
  where
    by : (newest : Option Newest) → IsNewestOf j o newest → (n : Newest) × (newest ≡ Some n)
    by None none = absurd (none t w)
    by (Some n) some = (n, refl)

pub snapshot_is : (n : ℕ) (j : List Entry) (g : Told) (m : Table) (names : List Span) (kind : Kind) → IsGapsOf n j g → IsMarksOf j m → IsBuilt g m names kind → IsSnapshot g.sets n j names kind
snapshot_is n j g m names (Checkpoint to target floor rows) f h b = (
  b.vector ∙ f.vector,
  b.floor ∙ h.floor,
  record {
    one_list = b.names.one_list;
    lacks_them = λ o name t. b.names.lacks_them o name (t.0, (precise_name n j g o name f).1 t.1);
    no_others = λ o name t. let x = b.names.no_others o name t in (x.0, (precise_name n j g o name f).0 x.1);
  },
  λ row c. snapshot_row j m target row h (rows_are m target (names_of m) row (subst (λ (rs : List Row). Contains rs row) b.rows c)).0,
  λ o t name out w.
      let known = named_known j m o t h w in
      let r = row_there m target (names_of m) o known.0 (newest_held m o _ known.0 refl known.1) out known.1 in
      (r.0, subst (λ (rs : List Row). Contains rs r.0) (sym b.rows) r.1, r.2),
  subst (λ (rs : List Row). AllPairs (λ (x : Row) (y : Row). IsTrue (name_lt x.name y.name)) rs) (sym b.rows) (rows_rise m target (names_of m) b.order),
)
snapshot_is n j g m names (Precise from to write) f h b = absurd b
snapshot_is n j g m names (Imprecise from to target) f h b = absurd b
snapshot_is n j g m names (Body name stamp bytes) f h b = absurd b
