-- What a node knows gives one start, one checkpoint, one answer and one list of conflicts.
use Rattle.std.proofs.Common.{◌≡◌, ℕ, ◌<◌, ◌≤◌, ◌+◌, ◌⊎◌, inl, inr, List, [], ◌∷◌, refl, sym, ◌∙◌, ap, subst, arith, length}
use Rattle.std.specs.Prelude.{true, false, Bool, IsTrue, Option, Some, None, Contains, nat_lt, nat_eq, ◌&&◌, ◌||◌}
use Rattle.std.specs.List.{AllZip}
use Rattle.std.proofs.lemmas.Bool.Decides.{nat_tests}
use Rattle.std.proofs.lemmas.Grind.{same_number_lists}
use Rattle.pr_stamps.specs.Point.{Point, Before}
use Rattle.pr_stamps.specs.declared.mark.Mark.{Mark}
use Rattle.pr_vectors.specs.Vector.{clock_of}
use Rattle.pr_sets.specs.Spans.{has, IsAllBut, Meet}
use Rattle.pr_names.specs.Order.{name_lt}
use Rattle.pr_names.specs.Name.{IsName}
use Rattle.pr_names.specs.Span.{Span}
use Rattle.pr_inval.specs.declared.kind.Kind.{Kind}
use Rattle.pr_inval.specs.declared.kind.Kind.TheVariants.{Precise, Imprecise, Checkpoint, Body}
use Rattle.pr_inval.specs.declared.row.Row.{Row}
use Rattle.pr_story.specs.declared.entry.Entry.{Entry}
use Rattle.pr_story.specs.declared.reply.Reply.{Reply}
use Rattle.pr_story.specs.declared.reply.Reply.TheVariants as reply
use Rattle.pr_story.specs.declared.found.Found.{Found}
use Rattle.pr_story.specs.declared.found.Found.TheVariants as found
use Rattle.pr_story.specs.History.{NodeEntry, journal, current_clock, current_vector}
use Rattle.pr_story.specs.Told.{all_sets, IsPrecise, IsTold, IsUntold, IsGreatestUpTo, IsLastPrecise, IsStart}
use Rattle.pr_sets.specs.Sets.{set_of}
use Rattle.pr_story.specs.Knowledge.{WasNamed, IsNewest, IsCoveredWrite, IsGone, IsMark, IsNewestKnown, IsAnswer, IsFound, MissedBy, AreConflicts, held_body}
use Rattle.pr_story.specs.Turns.{IsSnapshot, IsSnapshotRow}
use Rattle.pr_story.proofs.Clocks.{neither_before}
use Rattle.pr_story.proofs.World.{World}
use Rattle.pr_story.proofs.Known.{same_point}
use Rattle.pr_story.proofs.Precise.{gone_both, gone_one, named_covered}
use Rattle.pr_story.proofs.Alike.{greatest_one}
use Rattle.pr_story.proofs.Lit.{bool_cases}
use Rattle.pr_sets.proofs.Same.{same_list}
use Rattle.pr_story.proofs.Sorted.{sorted_one}

-- ---- vectors and points

vector_one : (v w : List ℕ) → length v ≡ 32 → length w ≡ 32 → ((n : ℕ) → n < 32 → clock_of v n ≡ clock_of w n) → v ≡ w
vector_one v w p q same = same_number_lists v w (p ∙ sym q) (λ n lt. same n (omega arith))

sides : (a b : ℕ) → (a < b) ⊎ ((b < a) ⊎ (a ≡ b))
sides a b = grind arith

upto_one : (j : List Entry) (P : Point → Type 0) (v w : List ℕ) → IsGreatestUpTo j P v → IsGreatestUpTo j P w → v ≡ w
upto_one j P v w p q = vector_one v w p.0 q.0 (λ n lt. elim (sides (clock_of v n) (clock_of w n)) [
  | inl less ↦ absurd (let le : clock_of w n ≤ current_clock j n = (q.1 n lt).0 in (p.1 n lt).2 (omega arith) ((q.1 n lt).1 (clock_of v n + 1) (omega arith) (omega arith)))
  | inr rest ↦ elim rest [
    | inl more ↦ absurd (let le : clock_of v n ≤ current_clock j n = (p.1 n lt).0 in (q.1 n lt).2 (omega arith) ((p.1 n lt).1 (clock_of w n + 1) (omega arith) (omega arith)))
    | inr same ↦ same
  ]
])

pub start_one : (sets : List (List Span)) (n : ℕ) (j : List Entry) (names : List Span) (v w : List ℕ) → IsStart sets n j names v → IsStart sets n j names w → v ≡ w
start_one sets n j names v w p q = upto_one j (λ r. (set : List ℕ → Bool) → Contains (all_sets sets) set → Meet set (has names) → IsTold n j set r) v w p q

point_one : (s t : Point) → ¬ Before s t → ¬ Before t s → s ≡ t
point_one s t p q = let e : (s.clock ≡ t.clock) × (s.node ≡ t.node) = neither_before s t p q in same_point s t e.0 e.1

untold_one : (n : ℕ) (j : List Entry) (set : List ℕ → Bool) (p q : Point) → IsUntold n j set p → IsUntold n j set q → p ≡ q
untold_one n j set p q a b = point_one p q (b.2 p a.0 a.1) (a.2 q b.0 b.1)

before_apart : (s t : Point) → Before s t → Before t s → ⊥
before_apart s t a b = grind arith

pub all_one : (n : ℕ) (j : List Entry) (sets : List (List ℕ → Bool)) (v w : List (List ℕ)) → AllZip (λ set x. IsLastPrecise n j set x) sets v → AllZip (λ set x. IsLastPrecise n j set x) sets w → v ≡ w
all_one n j [] [] [] p q = refl
all_one n j [] [] (y ∷ w) p q = absurd q
all_one n j [] (x ∷ v) w p q = absurd p
all_one n j (set ∷ sets) [] w p q = absurd p
all_one n j (set ∷ sets) (x ∷ v) [] p q = absurd q
all_one n j (set ∷ sets) (x ∷ v) (y ∷ w) p q = ap (λ (z : List ℕ). z ∷ v) (upto_one j (IsTold n j set) x y p.0 q.0) ∙ ap (λ (z : List (List ℕ)). y ∷ z) (all_one n j sets v w p.1 q.1)

-- ---- names and sets

name_step : (x y : ℕ) (p q : Bool) → (nat_lt x y || (nat_eq x y && p)) ≡ true → (nat_lt y x || (nat_eq y x && q)) ≡ true → (p ≡ true) × (q ≡ true)
name_step x y p q a b = grind (arith, nat_tests)

name_apart : (a b : List ℕ) → IsTrue (name_lt a b) → IsTrue (name_lt b a) → ⊥
unfolding name_lt
name_apart [] [] p q = cc
name_apart [] (y ∷ b) p q = cc
name_apart (x ∷ a) [] p q = cc
name_apart (x ∷ a) (y ∷ b) p q = let t : (name_lt a b ≡ true) × (name_lt b a ≡ true) = name_step x y (name_lt a b) (name_lt b a) p q in name_apart a b t.0 t.1

-- ---- checkpoints

module _ (h : List NodeEntry) (f : World h) (m : ℕ) where
  row_one : (s t : List Span) (a b : Row) → IsSnapshotRow (journal h m) s a → IsSnapshotRow (journal h m) t b → a.name ≡ b.name → a ≡ b
  row_one s t a b p q names =
      let newest : IsNewestKnown (journal h m) a.name (Some b.newest) = subst (λ (o : List ℕ). IsNewestKnown (journal h m) o (Some b.newest)) (sym names) q.newest in
      let stamps : Some a.newest ≡ Some b.newest = greatest_one (WasNamed (journal h m) a.name) (Some a.newest) (Some b.newest) p.newest newest in
      let stamp : a.newest ≡ b.newest = cc in
      let gone_a : IsGone h a.name a.newest a.gone = (gone_both h f m a.name a.newest a.gone p.newest.0).0 p.gone in
      let gone_b : IsGone h b.name b.newest b.gone = (gone_both h f m b.name b.newest b.gone q.newest.0).0 q.gone in
      let gone_c : IsGone h a.name a.newest b.gone = (gone_b.0, gone_b.1, gone_b.2, gone_b.3, gone_b.4 ∙ sym names, gone_b.5 ∙ sym stamp, gone_b.6) in
      let gone : a.gone ≡ b.gone = gone_one h f m a.name a.newest a.gone b.gone gone_a gone_c in
      let marks : a.marks ≡ b.marks = sorted_one (λ (x y : Mark). Before x.stamp y.stamp) (λ x y. before_apart x.stamp y.stamp) a.marks b.marks p.marks_rise q.marks_rise
      (λ x i. (q.marks x).1 (subst (λ (o : List ℕ). IsMark (journal h m) o x) names ((p.marks x).0 i)))
      (λ x i. (p.marks x).1 (subst (λ (o : List ℕ). IsMark (journal h m) o x) (sym names) ((q.marks x).0 i))) in
      ap (λ (o : List ℕ). let r : Row = record { name = o; newest = a.newest; gone = a.gone; marks = a.marks } in r) names
      ∙ ap (λ (s : Point). let r : Row = record { name = b.name; newest = s; gone = a.gone; marks = a.marks } in r) stamp
      ∙ ap (λ (g : Bool). let r : Row = record { name = b.name; newest = b.newest; gone = g; marks = a.marks } in r) gone
      ∙ ap (λ (k : List Mark). let r : Row = record { name = b.name; newest = b.newest; gone = b.gone; marks = k } in r) marks

  targets_one : (test : List ℕ → Type 0) (a b : List Span) → IsAllBut a test → IsAllBut b test → a ≡ b
  targets_one test a b p q = same_list a b p.one_list q.one_list (λ o name. elim (bool_cases (has a o)) [
    | inr lacks ↦ let t : has b o ≡ false = q.lacks_them o name (p.no_others o name lacks) in lacks ∙ sym t
    | inl is ↦ elim (bool_cases (has b o)) [
      | inr lacks ↦ let t : has a o ≡ false = p.lacks_them o name (q.no_others o name lacks) in cc
      | inl too ↦ is ∙ sym too
    ]
  ])

  -- a row of one has its like in the other
  row_moves : (sets : List (List Span)) (names : List Span) (to target floor : _) (rows : List Row) (too : List ℕ) (other : List Span) (ground : List ℕ) (more : List Row)
      → IsSnapshot sets m (journal h m) names (Checkpoint to target floor rows) → IsSnapshot sets m (journal h m) names (Checkpoint too other ground more) → target ≡ other
      → (r : Row) → Contains rows r → Contains more r
  row_moves sets names to target floor rows too other ground more p q same r i =
      let sr : IsSnapshotRow (journal h m) target r = p.3 r i in
      let c : IsCoveredWrite h (current_vector (journal h m)) r.name r.newest = named_covered h f m r.name r.newest sr.newest.0 in
      let name : IsName r.name = subst (λ (o : List ℕ). IsName o) c.4 (f.is_own c.0 c.1 c.2 c.3).name in
      let like : (row : Row) × Contains more row × (row.name ≡ r.name) = q.4 r.name r.newest name (subst (λ (t : List Span). has t r.name ≡ false) same sr.outside) sr.newest.0 in
      subst (λ (x : Row). Contains more x) (row_one other target like.0 r (q.3 like.0 like.1) sr like.2) like.1

  pub snapshot_one : (sets : List (List Span)) (names : List Span) (k l : Kind) → IsSnapshot sets m (journal h m) names k → IsSnapshot sets m (journal h m) names l → k ≡ l
  snapshot_one sets names (Checkpoint to target floor rows) (Checkpoint too other ground more) p q =
      let ends : to ≡ too = p.0 ∙ sym q.0 in
      let floors : floor ≡ ground = p.1 ∙ sym q.1 in
      let targets : target ≡ other = targets_one (λ o. IsTrue (has names o) × IsPrecise m (journal h m) (set_of sets o)) target other p.2 q.2 in
      let all : rows ≡ more = sorted_one (λ (a b : Row). IsTrue (name_lt a.name b.name)) (λ x y. name_apart x.name y.name) rows more p.5 q.5
      (row_moves sets names to target floor rows too other ground more p q targets) (row_moves sets names too other ground more to target floor rows q p (sym targets)) in
      cc
  snapshot_one sets names (Precise a b c) l p q = absurd p
  snapshot_one sets names (Imprecise a b c) l p q = absurd p
  snapshot_one sets names (Body a b c) l p q = absurd p
  snapshot_one sets names (Checkpoint to target floor rows) (Precise a b c) p q = absurd q
  snapshot_one sets names (Checkpoint to target floor rows) (Imprecise a b c) p q = absurd q
  snapshot_one sets names (Checkpoint to target floor rows) (Body a b c) p q = absurd q

-- ---- answers and conflicts

module _ (h : List NodeEntry) (f : World h) (sets : List (List Span)) (n : ℕ) (o : List ℕ) where
  abbrev Answers : Reply → Type 0
  Answers r = IsAnswer (IsNewest h (current_vector (journal h n)) o) (IsGone h o) sets n (journal h n) o r

  not_both : (p : Point) → IsUntold n (journal h n) (set_of sets o) p → IsPrecise n (journal h n) (set_of sets o) → ⊥
  not_both p u a = u.1 (a p u.0)

  some_one : (s t : Option Point) → IsNewest h (current_vector (journal h n)) o s → IsNewest h (current_vector (journal h n)) o t → s ≡ t
  some_one s t p q = greatest_one (IsCoveredWrite h (current_vector (journal h n)) o) s t p q

  stamp_same : (s t : Point) → IsNewest h (current_vector (journal h n)) o (Some s) → IsNewest h (current_vector (journal h n)) o (Some t) → s ≡ t
  stamp_same s t p q = let e : Some s ≡ Some t = some_one (Some s) (Some t) p q in cc

  gone_same : (s t : Point) (a b : Bool) → s ≡ t → IsGone h o s a → IsGone h o t b → a ≡ b
  gone_same s t a b e p q = gone_one h f n o t a b (subst (λ (x : Point). IsGone h o x a) e p) q

  held_same : (s t : Point) (a b : Option (List ℕ)) → s ≡ t → held_body (journal h n) o s ≡ a → held_body (journal h n) o t ≡ b → a ≡ b
  held_same s t a b e p q = sym p ∙ ap (λ (x : Point). held_body (journal h n) o x) e ∙ q

  pub answer_one : (a b : Reply) → Answers a → Answers b → a ≡ b
  answer_one (reply.Imprecise p) (reply.Imprecise q) x y = ap (λ (z : Point). reply.Imprecise z) (untold_one n (journal h n) (set_of sets o) p q x y)
  answer_one (reply.Imprecise p) reply.Never x y = absurd (not_both p x y.0)
  answer_one (reply.Imprecise p) (reply.Gone t) x y = absurd (not_both p x y.0)
  answer_one (reply.Imprecise p) (reply.Body t) x y = absurd (not_both p x y.0)
  answer_one (reply.Imprecise p) (reply.Value t bytes) x y = absurd (not_both p x y.0)
  answer_one reply.Never (reply.Imprecise q) x y = absurd (not_both q y x.0)
  answer_one (reply.Gone t) (reply.Imprecise q) x y = absurd (not_both q y x.0)
  answer_one (reply.Body t) (reply.Imprecise q) x y = absurd (not_both q y x.0)
  answer_one (reply.Value t bytes) (reply.Imprecise q) x y = absurd (not_both q y x.0)
  answer_one reply.Never reply.Never x y = refl
  answer_one reply.Never (reply.Gone t) x y = let e : None ≡ Some t = some_one None (Some t) x.1 y.1 in cc
  answer_one reply.Never (reply.Body t) x y = let e : None ≡ Some t = some_one None (Some t) x.1 y.1 in cc
  answer_one reply.Never (reply.Value t bytes) x y = let e : None ≡ Some t = some_one None (Some t) x.1 y.1 in cc
  answer_one (reply.Gone s) reply.Never x y = let e : Some s ≡ None = some_one (Some s) None x.1 y.1 in cc
  answer_one (reply.Body s) reply.Never x y = let e : Some s ≡ None = some_one (Some s) None x.1 y.1 in cc
  answer_one (reply.Value s bytes) reply.Never x y = let e : Some s ≡ None = some_one (Some s) None x.1 y.1 in cc
  answer_one (reply.Gone s) (reply.Gone t) x y = ap (λ (z : Point). reply.Gone z) (stamp_same s t x.1 y.1)
  answer_one (reply.Gone s) (reply.Body t) x y = let e : true ≡ false = gone_same s t true false (stamp_same s t x.1 y.1) x.2 y.2 in cc
  answer_one (reply.Gone s) (reply.Value t bytes) x y = let e : true ≡ false = gone_same s t true false (stamp_same s t x.1 y.1) x.2 y.2 in cc
  answer_one (reply.Body s) (reply.Gone t) x y = let e : false ≡ true = gone_same s t false true (stamp_same s t x.1 y.1) x.2 y.2 in cc
  answer_one (reply.Value s bytes) (reply.Gone t) x y = let e : false ≡ true = gone_same s t false true (stamp_same s t x.1 y.1) x.2 y.2 in cc
  answer_one (reply.Body s) (reply.Body t) x y = ap (λ (z : Point). reply.Body z) (stamp_same s t x.1 y.1)
  answer_one (reply.Body s) (reply.Value t bytes) x y = let e : None ≡ Some bytes = held_same s t None (Some bytes) (stamp_same s t x.1 y.1) x.3 y.3 in cc
  answer_one (reply.Value s bytes) (reply.Body t) x y = let e : Some bytes ≡ None = held_same s t (Some bytes) None (stamp_same s t x.1 y.1) x.3 y.3 in cc
  answer_one (reply.Value s bytes) (reply.Value t others) x y =
      let st : s ≡ t = stamp_same s t x.1 y.1 in
      let e : Some bytes ≡ Some others = held_same s t (Some bytes) (Some others) st x.3 y.3 in
      let same : bytes ≡ others = cc in
      cc

abbrev PairBefore : Point × Point → Point × Point → Type 0
PairBefore p q = Before p.0 q.0 ⊎ ((p.0 ≡ q.0) × Before p.1 q.1)

pair_apart : (p q : Point × Point) → PairBefore p q → PairBefore q p → ⊥
pair_apart p q a b = elim a [
  | inl x ↦ elim b [
    | inl y ↦ before_apart p.0 q.0 x y
    | inr y ↦ let z : Before p.0 p.0 = subst (λ (s : Point). Before p.0 s) y.0 x in before_apart p.0 p.0 z z
  ]
  | inr x ↦ elim b [
    | inl y ↦ let z : Before q.0 q.0 = subst (λ (s : Point). Before q.0 s) x.0 y in before_apart q.0 q.0 z z
    | inr y ↦ before_apart p.1 q.1 x.1 y.1
  ]
]

pair_moves : (P : Mark → Type 0) (a b : List (Point × Point)) → AreConflicts P a → AreConflicts P b → (r : Point × Point) → Contains a r → Contains b r
pair_moves P a b p q r i =
    let c = p.1 r.0 r.1 i in
    subst (λ (s : Point × Point). Contains b s) (ap (λ (s : Point). (s, c.1.stamp)) c.4 ∙ ap (λ (t : Point). (r.0, t)) c.5)
    (q.0 c.0 c.1 c.2 c.3 (subst (λ (s : Point). MissedBy c.1.prev s) (sym c.4) c.6) (subst (λ (s : Point). Before s c.1.stamp) (sym c.4) (subst (λ (t : Point). Before r.0 t) (sym c.5) c.7)))

pub found_one : (P : Mark → Type 0) (sets : List (List Span)) (n : ℕ) (j : List Entry) (o : List ℕ) (a b : Found) → IsFound P sets n j o a → IsFound P sets n j o b → a ≡ b
found_one P sets n j o (found.Imprecise p) (found.Imprecise q) x y = ap (λ (z : Point). found.Imprecise z) (untold_one n j (set_of sets o) p q x y)
found_one P sets n j o (found.Imprecise p) (found.Pairs b) x y = absurd (x.1 (y.0 p x.0))
found_one P sets n j o (found.Pairs a) (found.Imprecise q) x y = absurd (y.1 (x.0 q y.0))
found_one P sets n j o (found.Pairs a) (found.Pairs b) x y =
    ap (λ (z : List (Point × Point)). found.Pairs z) (sorted_one PairBefore pair_apart a b x.1.2 y.1.2 (pair_moves P a b x.1 y.1) (pair_moves P b a y.1 x.1))
