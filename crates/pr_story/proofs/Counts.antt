-- Stamps and vectors name declared nodes alone.
use Rattle.std.proofs.Common.{◌≡◌, ℕ, ◌<◌, ◌≤◌, ◌⊎◌, inl, inr, List, [], ◌∷◌, length, refl, sym, ◌∙◌, subst, arith, max, min, cond, nat_eq, get_or, zero, suc, ◌-◌}
use Rattle.std.specs.Prelude.{Some, None, Option, Bool, true, false, All, Contains, nat_lt}
use Rattle.std.specs.List.{AllZip}
use Rattle.std.proofs.lemmas.Bool.Decides.{nat_tests}
use Rattle.std.proofs.lemmas.List.{get_or_past}
use Rattle.std.proofs.lemmas.List.Elements.{Contains-get_or}
use Rattle.pr_sets.specs.Sets.{set_of}
use Rattle.pr_stamps.specs.Point.{Point}
use Rattle.pr_stamps.specs.declared.mark.Mark.{Mark}
use Rattle.pr_vectors.specs.Vector.{clock_of, Covers, join_of, IsVector, zero_vector, cut_of, below_of, last_of, raised}
use Rattle.pr_sets.specs.Spans.{has, Meet}
use Rattle.pr_names.specs.Name.{IsName}
use Rattle.pr_names.specs.Span.{Span}
use Rattle.pr_inval.specs.declared.kind.Kind.{Kind}
use Rattle.pr_inval.specs.declared.kind.Kind.TheVariants.{Precise, Imprecise, Checkpoint, Body}
use Rattle.pr_inval.specs.declared.msg.Msg.{Msg}
use Rattle.pr_inval.specs.declared.write_rec.WriteRec.{WriteRec}
use Rattle.pr_inval.specs.Points.{to_of}
use Rattle.pr_story.specs.declared.entry.Entry.{Entry}
use Rattle.pr_story.specs.declared.event.Event.{Event}
use Rattle.pr_story.specs.declared.event.Event.TheVariants.{Wrote, Attached, Sent, Idle, Stale, Accepted, Gapped, Missing, Down, Answered, Behind, Moved, Cut, Dropped, Conflicts, State}
use Rattle.pr_story.specs.declared.reply.Reply.{Reply}
use Rattle.pr_story.specs.declared.reply.Reply.TheVariants as replies
use Rattle.pr_story.specs.declared.found.Found.{Found}
use Rattle.pr_story.specs.declared.found.Found.TheVariants as founds
use Rattle.pr_story.specs.Ranges.{IsKind}
use Rattle.pr_story.specs.History.{Plan, NodeEntry, journal, WasWritten, Writes, WasSent, Sends, clock_brought, current_clock, current_vector}
use Rattle.pr_story.specs.Told.{IsLastPrecise, all_sets, IsPrecise, IsTold, IsGreatestUpTo, IsStart}
use Rattle.pr_story.specs.Knowledge.{IsAnswer, IsNewest, IsGone, IsFound, IsCoveredMark, IsCoveredWrite, IsNewestKnown, WasNamed, IsMark, Knows, cuts_of, cut_in, floor_of, floor_in, floor_after}
use Rattle.pr_story.specs.Clients.{client_vector, seen_after}
use Rattle.pr_story.specs.Turns.{position, position_after, standing, IsTurn, IsSnapshot, IsSnapshotRow, SendTurn}
use Rattle.pr_story.specs.Lawful.{IsLawful, Valid}
use Rattle.pr_story.specs.Counts.{Counts, IsDeclared, AreDeclared, AllNamed, HasEvent, HasPrev, HasVector, HasWrite, HasMark, HasRow, HasPair, HasKind, HasReply, HasFound}
use Rattle.pr_story.proofs.Basics.{clock_zero, clock_at, clock_is, vector_clock}
use Rattle.pr_story.proofs.World.{World, told_written}
use Rattle.pr_story.proofs.Known.{known_told}
use Rattle.pr_story.proofs.Making.{join_clock, cut_clock, below_clock}
use Rattle.pr_story.proofs.Clients.{raised_clock}
use Rattle.pr_story.proofs.Precise.{named_covered, set_has, marks_both}
use Rattle.pr_story.proofs.Points.{covered_node}
use Rattle.pr_vectors.proofs.Vectors.{length-vector_of}
use Rattle.pr_story.proofs.Steps.{valid_world, entry_at}
use Rattle.pr_story.specs.Statements.{HistoriesName}

all_of : {X : Type 0} (P : X → Type 0) (xs : List X) → ((x : X) → Contains xs x → P x) → All P xs
all_of P xs p = λ k d lt. p (get_or xs k d) (Contains-get_or xs k d lt)

node_or : (a b : ℕ) → (a < b) ⊎ (b ≤ a)
node_or a b = grind (arith, nat_tests)

-- ---- no undeclared node has a clock

other_node : (a n w b nodes : ℕ) → ◌≡◌ {A = ℕ} a 0 → n < nodes → nodes ≤ w → ◌≡◌ {A = ℕ} (max a (cond (nat_eq n w) b 0)) 0
other_node a n w b nodes z lt le = grind (arith, nat_tests)

no_entries : (k : Counts) (h : List NodeEntry) (w v : ℕ) → AreDeclared k h → k.nodes ≤ w → ◌≡◌ {A = ℕ} (clock_at h w v) 0
no_entries k [] w v a le = refl
no_entries k (e ∷ h) w v a le = other_node (clock_at h w v) e.node w (clock_brought e.entry.event v) k.nodes (no_entries k h w v a.1 le) a.0.0 le

-- the vector has no clock of an undeclared node among the 32
abbrev Past : ℕ → List ℕ → Type 0
Past nodes v = (w : ℕ) → w < 32 → nodes ≤ w → ◌≡◌ {A = ℕ} (clock_of v w) 0

whole : (nodes : ℕ) (v : List ℕ) → Past nodes v → IsVector v → HasVector nodes v
whole nodes v p i n le = elim (node_or n 32) [ inl lt ↦ p n lt le | inr past ↦ let l : length v ≡ 32 = i.nodes in get_or_past v n 0 (omega arith) ]

zero_past : (nodes : ℕ) → Past nodes zero_vector
zero_past nodes w lt le = clock_zero w

join_past : (nodes : ℕ) (v u : List ℕ) → Past nodes v → Past nodes u → Past nodes (join_of v u)
join_past nodes v u p q w lt le =
    let a : ◌≡◌ {A = ℕ} (clock_of v w) 0 = p w lt le in
    let b : ◌≡◌ {A = ℕ} (clock_of u w) 0 = q w lt le in
    let j : clock_of (join_of v u) w ≡ max (clock_of v w) (clock_of u w) = join_clock v u w lt in
    omega arith

upto_past : (nodes : ℕ) (j : List Entry) (P : Point → Type 0) (v : List ℕ) → ((w : ℕ) → w < 32 → nodes ≤ w → ◌≡◌ {A = ℕ} (current_clock j w) 0) → IsGreatestUpTo j P v → Past nodes v
upto_past nodes j P v z g w lt le =
    let a : clock_of v w ≤ current_clock j w = (g.1 w lt).0 in
    let b : ◌≡◌ {A = ℕ} (current_clock j w) 0 = z w lt le in
    omega arith

module _ (k : Counts) (h : List NodeEntry) (f : World h) (spoken : AreDeclared k h) where
  none_at : (n w : ℕ) → w < 32 → k.nodes ≤ w → ◌≡◌ {A = ℕ} (clock_at h n w) 0
  none_at n w lt le =
      let a : clock_at h n w ≤ clock_at h w w = f.own n w lt in
      let b : ◌≡◌ {A = ℕ} (clock_at h w w) 0 = no_entries k h w w spoken le in
      omega arith

  none_now : (n w : ℕ) → w < 32 → k.nodes ≤ w → ◌≡◌ {A = ℕ} (current_clock (journal h n) w) 0
  none_now n w lt le = clock_is h n w ∙ none_at n w lt le

  vector_past : (n : ℕ) → Past k.nodes (current_vector (journal h n))
  vector_past n w lt le = vector_clock h n w lt ∙ none_at n w lt le

  -- stamps of writes
  written_has : (x : WriteRec) (body dep : List ℕ) → WasWritten h x body dep → x.stamp.node < k.nodes
  written_has x body dep w = elim (node_or x.stamp.node k.nodes) [
    | inl lt ↦ lt
    | inr le ↦
        let i = f.is_own x body dep w in
        let one : 1 ≤ x.stamp.clock = i.one in
        let r : x.stamp.clock ≤ clock_at h x.stamp.node x.stamp.node = i.reached in
        let z : ◌≡◌ {A = ℕ} (clock_at h x.stamp.node x.stamp.node) 0 = none_at x.stamp.node x.stamp.node i.node le in
        absurd (omega arith)
  ]

  covered_write_has : (v o : List ℕ) (s : Point) → IsCoveredWrite h v o s → s.node < k.nodes
  covered_write_has v o s c = subst (λ (p : Point). p.node < k.nodes) c.5 (written_has c.0 c.1 c.2 c.3)

  named_has : (n : ℕ) (o : List ℕ) (s : Point) → WasNamed (journal h n) o s → s.node < k.nodes
  named_has n o s w = covered_write_has (current_vector (journal h n)) o s (named_covered h f n o s w)

  covered_has : (n : ℕ) (p : Point) → Covers (current_vector (journal h n)) p → p.node < k.nodes
  covered_has n p c = elim (node_or p.node k.nodes) [
    | inl lt ↦ lt
    | inr le ↦ elim (node_or p.node 32) [
      | inl lt ↦ let one : 1 ≤ p.clock = c.0 in let u : p.clock ≤ clock_of (current_vector (journal h n)) p.node = c.1 in let z : ◌≡◌ {A = ℕ} (clock_of (current_vector (journal h n)) p.node) 0 = vector_past n p.node lt le in absurd (omega arith)
      | inr past ↦ let lt : p.node < 32 = covered_node (current_vector (journal h n)) p (length-vector_of (current_clock (journal h n))) c in absurd (omega arith)
    ]
  ]

  prev_has : (n : ℕ) (o : List ℕ) (t : Option Point) → IsNewestKnown (journal h n) o t → HasPrev k.nodes t
  prev_has n o None w = tt
  prev_has n o (Some p) w = named_has n o p w.0

new_prev : (plan : Plan) (k : Counts) (h : List NodeEntry) (n time caller : ℕ) (event : Event) (x : WriteRec) (body dep : List ℕ) → World h → AreDeclared k h → IsLawful plan h (entry_at n time caller event) → Writes event x body dep → HasPrev k.nodes x.prev
new_prev plan k h n time caller (Wrote client write bytes after) x body dep f a l w = subst (λ (y : WriteRec). HasPrev k.nodes y.prev) w.0 (prev_has k h f a n write.name write.prev l.may_come.5)
new_prev plan k h n time caller _ x body dep f a l w = absurd w

written_prev : (plan : Plan) (k : Counts) (h : List NodeEntry) → Valid plan h → AreDeclared k h → (x : WriteRec) (body dep : List ℕ) → WasWritten h x body dep → HasPrev k.nodes x.prev
written_prev plan k [] v a x body dep w = absurd w
written_prev plan k (e ∷ h) v a x body dep w = elim w [
  | inl now ↦ new_prev plan k h e.node e.entry.time e.entry.caller e.entry.event x body dep (valid_world plan h v.1) a.1 v.0 now
  | inr old ↦ written_prev plan k h v.1 a.1 x body dep old
]

-- ---- what is kept from entry to entry

record Kept (nodes : ℕ) (h : List NodeEntry) : Type 0 where
  positions : (s : ℕ) → Past nodes (position h s)
  sent : (msg : Msg) → WasSent h msg → HasKind nodes msg.kind
  floors : (n : ℕ) → Past nodes (floor_of (journal h n))
  cuts : (n : ℕ) → Past nodes (cuts_of (journal h n))
  seen : (c : ℕ) → Past nodes (client_vector h c)

past_of : (nodes : ℕ) (v : List ℕ) → HasVector nodes v → Past nodes v
past_of nodes v has w lt le = has w le

to_past : (nodes : ℕ) (kind : Kind) → HasKind nodes kind → Past nodes (to_of kind)
to_past nodes (Precise from to write) i = past_of nodes to i.1
to_past nodes (Imprecise from to target) i = past_of nodes to i.1
to_past nodes (Checkpoint to target floor rows) i = past_of nodes to i.0
to_past nodes (Body name stamp bytes) i = zero_past nodes

floor_past : (nodes : ℕ) (kind : Kind) → HasKind nodes kind → Past nodes (floor_in kind)
floor_past nodes (Precise from to write) i = zero_past nodes
floor_past nodes (Imprecise from to target) i = zero_past nodes
floor_past nodes (Checkpoint to target floor rows) i = past_of nodes floor i.1
floor_past nodes (Body name stamp bytes) i = zero_past nodes

cond_past : (nodes : ℕ) (b : Bool) (v u : List ℕ) → Past nodes v → Past nodes u → Past nodes (cond b v u)
cond_past nodes true v u p q = p
cond_past nodes false v u p q = q

module _ (plan : Plan) (k : Counts) (h : List NodeEntry) (valid : Valid plan h) (spoken : AreDeclared k h) (kept : Kept k.nodes h) where
  f : World h
  f = valid_world plan h valid

  upto_now : (n : ℕ) (v : List ℕ) → ((w : ℕ) → w < 32 → clock_of v w ≤ clock_at h n w) → Past k.nodes v
  upto_now n v less w lt le = let a : clock_of v w ≤ clock_at h n w = less w lt in let z : ◌≡◌ {A = ℕ} (clock_at h n w) 0 = none_at k h f spoken n w lt le in omega arith

  cut_past : (n : ℕ) (t : Point) → Past k.nodes (cut_of (current_vector (journal h n)) t)
  cut_past n t = upto_now n (cut_of (current_vector (journal h n)) t) (λ w lt. let e : clock_of (cut_of (current_vector (journal h n)) t) w ≡ min (clock_at h n w) (last_of t w) = cut_clock h f n t w lt in omega arith)

  below_past : (n : ℕ) (t : Point) → Past k.nodes (below_of (current_vector (journal h n)) t)
  below_past n t = upto_now n (below_of (current_vector (journal h n)) t) (λ w lt. let e : clock_of (below_of (current_vector (journal h n)) t) w ≡ min (clock_at h n w) (cond (nat_lt w t.node) t.clock (t.clock - 1)) = below_clock h f n t w lt in omega arith)

  known_has : (n : ℕ) (x : WriteRec) → Knows (journal h n) x → HasWrite k.nodes x
  known_has n x w =
      let y : (body : List ℕ) × (dep : List ℕ) × WasWritten h x body dep = told_written h f n x (known_told (journal h n) x w) in
      (written_has k h f spoken x y.0 y.1 y.2, written_prev plan k h valid spoken x y.0 y.1 y.2)

  turn_has : (n s : ℕ) (kind : Kind) → IsKind kind → IsTurn n (journal h n) (standing plan h s) (SendTurn kind) → HasKind k.nodes kind
  turn_has n s (Precise from to write) i t = (
    whole k.nodes from (subst (λ (v : List ℕ). Past k.nodes v) (sym t.2) (kept.positions s)) i.0,
    whole k.nodes to (subst (λ (v : List ℕ). Past k.nodes v) (sym t.4) (join_past k.nodes (position h s) (cut_of (current_vector (journal h n)) write.stamp) (kept.positions s) (cut_past n write.stamp))) i.1,
    known_has n write t.3.0.0,
  )
  turn_has n s (Imprecise from to target) i t = (
    whole k.nodes from (subst (λ (v : List ℕ). Past k.nodes v) (sym t.2) (kept.positions s)) i.0,
    whole k.nodes to (elim t.4 [
      | inl all ↦ subst (λ (v : List ℕ). Past k.nodes v) (sym all.1) (join_past k.nodes (position h s) (current_vector (journal h n)) (kept.positions s) (vector_past k h f spoken n))
      | inr next ↦ subst (λ (v : List ℕ). Past k.nodes v) (sym next.2) (join_past k.nodes (position h s) (below_of (current_vector (journal h n)) next.0.stamp) (kept.positions s) (below_past n next.0.stamp))
    ]) i.1,
  )
  turn_has n s (Checkpoint to target floor rows) i t = absurd t
  turn_has n s (Body o stamp bytes) i t = named_has k h f spoken n o stamp t.3.0.1.0

  mark_has : (n : ℕ) (o : List ℕ) (mark : Mark) → IsPrecise n (journal h n) (set_of (plan.sets n) o) → IsMark (journal h n) o mark → HasMark k.nodes mark
  mark_has n o mark precise m =
      let c : IsCoveredMark h (current_vector (journal h n)) (floor_of (journal h n)) o mark = (marks_both h f n (set_of (plan.sets n) o) o (set_has (plan.sets n) o) precise mark).0 m in (
        subst (λ (p : Point). p.node < k.nodes) c.0.5 (written_has k h f spoken c.0.0 c.0.1 c.0.2 c.0.3),
        subst (λ (p : Option Point). HasPrev k.nodes p) c.0.6 (written_prev plan k h valid spoken c.0.0 c.0.1 c.0.2 c.0.3),
      )

  snapshot_has : (n : ℕ) (names : List Span) (kind : Kind) → IsKind kind → IsSnapshot (plan.sets n) n (journal h n) names kind → HasKind k.nodes kind
  snapshot_has n names (Precise a b d) i s = absurd s
  snapshot_has n names (Imprecise a b d) i s = absurd s
  snapshot_has n names (Body a b d) i s = absurd s
  snapshot_has n names (Checkpoint to target floor rows) i s = (
    whole k.nodes to (subst (λ (v : List ℕ). Past k.nodes v) (sym s.0) (vector_past k h f spoken n)) i.0,
    whole k.nodes floor (subst (λ (v : List ℕ). Past k.nodes v) (sym s.1) (kept.floors n)) i.2,
    all_of (HasRow k.nodes) rows (λ row r.
        let sr : IsSnapshotRow (journal h n) target row = s.3 row r in
        let c : IsCoveredWrite h (current_vector (journal h n)) row.name row.newest = named_covered h f n row.name row.newest sr.newest.0 in
        let name : IsName row.name = subst (λ (q : List ℕ). IsName q) c.4 (f.is_own c.0 c.1 c.2 c.3).name in (
          named_has k h f spoken n row.name row.newest sr.newest.0,
          all_of (HasMark k.nodes) row.marks (λ mark m. mark_has n row.name mark (s.2.no_others row.name name sr.outside).1 ((sr.marks mark).0 m)),
        )),
  )

  -- ---- each event

  reply_has : (n : ℕ) (o : List ℕ) (answer : Reply) → IsAnswer (IsNewest h (current_vector (journal h n)) o) (IsGone h o) (plan.sets n) n (journal h n) o answer → HasReply k.nodes answer
  reply_has n o replies.Never a = tt
  reply_has n o (replies.Value t bytes) a = covered_write_has k h f spoken (current_vector (journal h n)) o t a.1.0
  reply_has n o (replies.Gone t) a = covered_write_has k h f spoken (current_vector (journal h n)) o t a.1.0
  reply_has n o (replies.Body t) a = covered_write_has k h f spoken (current_vector (journal h n)) o t a.1.0
  reply_has n o (replies.Imprecise p) a = covered_has k h f spoken n p a.0

  found_has : (n : ℕ) (o : List ℕ) (answer : Found) → IsFound (IsCoveredMark h (current_vector (journal h n)) (floor_of (journal h n)) o) (plan.sets n) n (journal h n) o answer → HasFound k.nodes answer
  found_has n o (founds.Imprecise p) a = covered_has k h f spoken n p a.0
  found_has n o (founds.Pairs pairs) a = all_of (HasPair k.nodes) pairs (λ pair c.
      let m = a.1.1 pair.0 pair.1 c in (
        subst (λ (p : Point). p.node < k.nodes) m.4 (covered_has k h f spoken n m.0.stamp m.2.1),
        subst (λ (p : Point). p.node < k.nodes) m.5 (covered_has k h f spoken n m.1.stamp m.3.1),
      ))

  zip_past : (n : ℕ) (sets : List (List ℕ → Bool)) (vs : List (List ℕ)) → AllZip (λ set v. IsLastPrecise n (journal h n) set v) sets vs → (i : ℕ) (d : List ℕ) → i < length vs → Past k.nodes (get_or vs i d)
  zip_past n [] [] z i d lt = absurd (omega arith)
  zip_past n [] (u ∷ vs) z i d lt = absurd z
  zip_past n (set ∷ sets) [] z i d lt = absurd z
  zip_past n (set ∷ sets) (u ∷ vs) z zero d lt = upto_past k.nodes (journal h n) (IsTold n (journal h n) set) u (none_now k h f spoken n) z.0
  zip_past n (set ∷ sets) (u ∷ vs) z (suc i) d lt = zip_past n sets vs z.1 i d (omega arith)

  vectors_has : (n : ℕ) (sets : List (List ℕ → Bool)) (vs : List (List ℕ)) → AllZip (λ set v. IsLastPrecise n (journal h n) set v) sets vs → All IsVector vs → All (HasVector k.nodes) vs
  vectors_has n sets vs z all = λ i d lt. whole k.nodes (get_or vs i d) (zip_past n sets vs z i d lt) (all i d lt)

  sent_has : (n time caller : ℕ) (event : Event) (msg : Msg) → IsLawful plan h (entry_at n time caller event) → Sends event msg → HasKind k.nodes msg.kind
  sent_has n time caller (Sent other) msg l is = subst (λ (m : Msg). HasKind k.nodes m.kind) is (elim l.may_come.2 [
    | inl turn ↦ turn_has n other.stream other.kind l.in_range.3 turn
    | inr snap ↦ snapshot_has n (plan.stream other.stream).names other.kind l.in_range.3 snap
  ])
  sent_has n time caller _ msg l is = absurd is

  at_past : (n : ℕ) (v : List ℕ) → v ≡ current_vector (journal h n) → Past k.nodes v
  at_past n v e = subst (λ (u : List ℕ). Past k.nodes u) (sym e) (vector_past k h f spoken n)

  accepted_past : (n : ℕ) (msg : Msg) (at : List ℕ) → WasSent h msg → at ≡ join_of (current_vector (journal h n)) (to_of msg.kind) → Past k.nodes at
  accepted_past n msg at sent e = subst (λ (u : List ℕ). Past k.nodes u) (sym e) (join_past k.nodes (current_vector (journal h n)) (to_of msg.kind) (vector_past k h f spoken n) (to_past k.nodes msg.kind (kept.sent msg sent)))

  start_past : (n s : ℕ) (at : List ℕ) → IsStart (plan.sets n) n (journal h n) (plan.stream s).names at → Past k.nodes at
  start_past n s at i = upto_past k.nodes (journal h n) (λ p. (set : List ℕ → Bool) → Contains (all_sets (plan.sets n)) set → Meet set (has (plan.stream s).names) → IsTold n (journal h n) set p) at (none_now k h f spoken n) i

  names_declared : (n time caller : ℕ) (event : Event) → n < k.nodes → IsDeclared k event → IsLawful plan h (entry_at n time caller event) → HasEvent k event
  names_declared n time caller (Wrote client write body after) lt d l = (d, (subst (λ (m : ℕ). m < k.nodes) (sym l.may_come.2) lt, prev_has k h f spoken n write.name write.prev l.may_come.5), whole k.nodes after (at_past n after l.may_come.1) l.in_range.3)
  names_declared n time caller (Attached s at) lt d l = (d, whole k.nodes at (start_past n s at l.may_come) l.in_range.1)
  names_declared n time caller (Sent msg) lt d l = (d, sent_has n time caller (Sent msg) msg l refl)
  names_declared n time caller (Idle s) lt d l = d
  names_declared n time caller (Stale s cut) lt d l = (d, whole k.nodes cut (subst (λ (u : List ℕ). Past k.nodes u) (sym l.may_come.0) (kept.cuts n)) l.in_range.1)
  names_declared n time caller (Accepted msg at) lt d l = ((d, kept.sent msg l.cause), whole k.nodes at (accepted_past n msg at l.cause l.may_come.1) l.in_range.1)
  names_declared n time caller (Gapped msg at) lt d l = ((d, kept.sent msg l.cause), whole k.nodes at (at_past n at l.may_come.2) l.in_range.1)
  names_declared n time caller (Missing s number) lt d l = d
  names_declared n time caller (Down s cause) lt d l = d
  names_declared n time caller (Answered client o answer at) lt d l = (d, reply_has n o answer l.may_come.0, whole k.nodes at (at_past n at l.may_come.1) l.in_range.3)
  names_declared n time caller (Behind client needs at) lt d l = (d, whole k.nodes needs (subst (λ (u : List ℕ). Past k.nodes u) (sym l.may_come.0) (kept.seen client)) l.in_range.1, whole k.nodes at (at_past n at l.may_come.2) l.in_range.2)
  names_declared n time caller (Moved client) lt d l = d
  names_declared n time caller (Cut at) lt d l = whole k.nodes at (at_past n at l.may_come) l.in_range
  names_declared n time caller (Dropped o) lt d l = tt
  names_declared n time caller (Conflicts o found) lt d l = found_has n o found l.may_come
  names_declared n time caller (State at cut floor precise) lt d l = (
    whole k.nodes at (at_past n at l.may_come.0) l.in_range.0,
    whole k.nodes cut (subst (λ (u : List ℕ). Past k.nodes u) (sym l.may_come.1) (kept.cuts n)) l.in_range.1,
    whole k.nodes floor (subst (λ (u : List ℕ). Past k.nodes u) (sym l.may_come.2) (kept.floors n)) l.in_range.2,
    vectors_has n (all_sets (plan.sets n)) precise l.may_come.3 l.in_range.3,
  )

  -- ---- one entry more

  position_more : (n time caller : ℕ) (event : Event) (s : ℕ) → n < k.nodes → IsLawful plan h (entry_at n time caller event) → Past k.nodes (position_after event s (position h s))
  position_more n time caller (Attached t at) s lt l = cond_past k.nodes (nat_eq t s) at (position h s) (start_past n t at l.may_come) (kept.positions s)
  position_more n time caller (Sent msg) s lt l = cond_past k.nodes (nat_eq msg.stream s) (join_of (position h s) (to_of msg.kind)) (position h s)
      (join_past k.nodes (position h s) (to_of msg.kind) (kept.positions s) (to_past k.nodes msg.kind (sent_has n time caller (Sent msg) msg l refl))) (kept.positions s)
  position_more n time caller _ s lt l = kept.positions s

  floor_more : (n time caller : ℕ) (event : Event) → IsLawful plan h (entry_at n time caller event) → Past k.nodes (floor_after event)
  floor_more n time caller (Cut at) l = at_past n at l.may_come
  floor_more n time caller (Accepted msg at) l = floor_past k.nodes msg.kind (kept.sent msg l.cause)
  floor_more n time caller _ l = zero_past k.nodes

  cut_more : (n time caller : ℕ) (event : Event) → IsLawful plan h (entry_at n time caller event) → Past k.nodes (cut_in event)
  cut_more n time caller (Cut at) l = at_past n at l.may_come
  cut_more n time caller _ l = zero_past k.nodes

  seen_more : (n time caller : ℕ) (event : Event) (c : ℕ) → n < k.nodes → IsLawful plan h (entry_at n time caller event) → Past k.nodes (seen_after event c (client_vector h c))
  seen_more n time caller (Wrote client write body after) c lt l = cond_past k.nodes (nat_eq client c) (join_of (client_vector h c) (raised after write.stamp)) (client_vector h c)
      (join_past k.nodes (client_vector h c) (raised after write.stamp) (kept.seen c) (λ w less le.
      let r : clock_of (raised after write.stamp) w ≡ cond (nat_eq w write.stamp.node) (max (clock_of after w) write.stamp.clock) (clock_of after w) = raised_clock after write.stamp w less in
      let z : ◌≡◌ {A = ℕ} (clock_of after w) 0 = at_past n after l.may_come.1 w less le in
      let is : write.stamp.node ≡ n = l.may_come.2 in
      r ∙ unraised (clock_of after w) write.stamp.clock w write.stamp.node n k.nodes z is lt le)) (kept.seen c)
    where
      unraised : (a b w m n nodes : ℕ) → ◌≡◌ {A = ℕ} a 0 → m ≡ n → n < nodes → nodes ≤ w → ◌≡◌ {A = ℕ} (cond (nat_eq w m) (max a b) a) 0
      unraised a b w m n nodes z is lt le = grind (arith, nat_tests)
  seen_more n time caller (Answered client o answer at) c lt l = cond_past k.nodes (nat_eq client c) (join_of (client_vector h c) at) (client_vector h c) (join_past k.nodes (client_vector h c) at (kept.seen c) (at_past n at l.may_come.1)) (kept.seen c)
  seen_more n time caller _ c lt l = kept.seen c

floor_cond : (nodes : ℕ) (b : Bool) (e : Entry) (j : List Entry) → Past nodes (floor_of j) → Past nodes (floor_after e.event) → Past nodes (floor_of (cond b (e ∷ j) j))
floor_cond nodes true e j p q = join_past nodes (floor_of j) (floor_after e.event) p q
floor_cond nodes false e j p q = p

cuts_cond : (nodes : ℕ) (b : Bool) (e : Entry) (j : List Entry) → Past nodes (cuts_of j) → Past nodes (cut_in e.event) → Past nodes (cuts_of (cond b (e ∷ j) j))
cuts_cond nodes true e j p q = join_past nodes (cuts_of j) (cut_in e.event) p q
cuts_cond nodes false e j p q = p

all_kept : (plan : Plan) (k : Counts) (h : List NodeEntry) → Valid plan h → AreDeclared k h → Kept k.nodes h
all_kept plan k [] v a = record { positions = λ s. zero_past k.nodes; sent = λ msg w. absurd w; floors = λ n. zero_past k.nodes; cuts = λ n. zero_past k.nodes; seen = λ c. zero_past k.nodes }
all_kept plan k (e ∷ h) v a =
    let old : Kept k.nodes h = all_kept plan k h v.1 a.1 in
    record {
      positions = λ s. position_more plan k h v.1 a.1 old e.node e.entry.time e.entry.caller e.entry.event s a.0.0 v.0;
      sent = λ msg w. elim w [ inl now ↦ sent_has plan k h v.1 a.1 old e.node e.entry.time e.entry.caller e.entry.event msg v.0 now | inr before ↦ old.sent msg before ];
      floors = λ n. floor_cond k.nodes (nat_eq e.node n) e.entry (journal h n) (old.floors n) (floor_more plan k h v.1 a.1 old e.node e.entry.time e.entry.caller e.entry.event v.0);
      cuts = λ n. cuts_cond k.nodes (nat_eq e.node n) e.entry (journal h n) (old.cuts n) (cut_more plan k h v.1 a.1 old e.node e.entry.time e.entry.caller e.entry.event v.0);
      seen = λ c. seen_more plan k h v.1 a.1 old e.node e.entry.time e.entry.caller e.entry.event c a.0.0 v.0;
    }

all_named : (plan : Plan) (k : Counts) (h : List NodeEntry) → Valid plan h → AreDeclared k h → AllNamed k h
all_named plan k [] v a = tt
all_named plan k (e ∷ h) v a = (
  a.0.0,
  names_declared plan k h v.1 a.1 (all_kept plan k h v.1 a.1) e.node e.entry.time e.entry.caller e.entry.event a.0.0 a.0.1 v.0,
  all_named plan k h v.1 a.1,
)

pub histories_name : HistoriesName
histories_name plan k h is = all_named plan k h is.valid is.declared
