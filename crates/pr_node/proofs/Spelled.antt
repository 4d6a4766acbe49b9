-- What a node sends is in the grammar, where what it was told is.
use Rattle.std.proofs.Common.{◌≡◌, ℕ, ◌<◌, ◌≤◌, ◌+◌, ◌⊎◌, inl, inr, List, [], ◌∷◌, suc, max, min, cond, nat_eq, refl, sym, ◌∙◌, ap, subst, arith, length, get_or}
use Rattle.std.specs.Prelude.{Bool, Option, None, Some, Result, Ok, Err, IfOk, All, AllPairs, Contains}
use Rattle.std.specs.List.{AllByRecursion}
use Rattle.std.proofs.lemmas.Bool.Decides.{nat_tests}
use Rattle.std.proofs.lemmas.List.Elements.{All-contains, All-from_recursion}
use Rattle.pr_stamps.specs.Point.{Point, Before, IsStamp, IsPrev}
use Rattle.pr_stamps.specs.declared.mark.Mark.{Mark}
use Rattle.pr_names.specs.Span.{Span}
use Rattle.pr_sets.specs.Spans.{has}
use Rattle.pr_vectors.specs.Vector.{clock_of, Covers, Between, Le, join_of, cut_of, below_of, last_of, zero_vector}
use Rattle.pr_vectors.proofs.Vectors.{clock_of-vector_of}
use Rattle.pr_inval.specs.declared.kind.Kind.{Kind}
use Rattle.pr_inval.specs.declared.kind.Kind.TheVariants.{Precise, Imprecise, Checkpoint, Body}
use Rattle.pr_inval.specs.declared.msg.Msg.{Msg}
use Rattle.pr_inval.specs.declared.row.Row.{Row}
use Rattle.pr_inval.specs.declared.step.Step.{Step}
use Rattle.pr_inval.specs.declared.step.Step.TheVariants as step
use Rattle.pr_inval.specs.declared.write_rec.WriteRec.{WriteRec}
use Rattle.pr_inval.specs.Points.{to_of}
use Rattle.pr_inval.specs.Standing.{SessionMeaning, Standing}
use Rattle.pr_node.specs.Sending.{IsNextTurn, IsStepInRange}
use Rattle.pr_story.specs.declared.entry.Entry.{Entry}
use Rattle.pr_story.specs.declared.event.Event.{Event}
use Rattle.pr_story.specs.declared.event.Event.TheVariants.{Wrote, Accepted, Cut}
use Rattle.pr_story.specs.History.{Accepts, HasAccepted, Writes, SomeEvent, clock_brought, current_clock, current_vector}
use Rattle.pr_story.specs.Knowledge.{IsOf, HasRow, TellsOf, HeardOf, NamesStamp, WasNamed, IsMark, floor_in, floor_after, floor_of}
use Rattle.pr_story.specs.Ranges.{IsKind as IsKindInRange, IsMsg, IsRow as IsRowInRange, IsStampOrNone}
use Rattle.pr_story.specs.Turns.{IsTurn, SendTurn, IsSnapshot, IsSnapshotRow, event_of}
use Rattle.pr_story.proofs.Basics.{clock_zero}
use Rattle.pr_story.proofs.Known.{known_told, held_how}
use Rattle.pr_story.proofs.Naming.{TellsMark, WasToldMark, known_mark_told}
use Rattle.pr_inval.specs.Messages.{IsAscending, IsCheckpoint, IsEarlierMark, IsEarlierRow, IsKind, IsMark as IsMarkOfRow, IsMessage, IsRow}
use Rattle.pr_node.specs.Grammar.{HasBytes, IsSpelled, IsSpelledEvent, IsStepSpelled}
use Rattle.pr_node.specs.declared.stores.Stores.{Stores}
use Rattle.pr_node.specs.Ties.{IsMarkInRange, IsTied}
use Rattle.pr_node.proofs.Clocks.{vector_grows}

-- ---- rows of a checkpoint

row_of : (to : List ℕ) (target : List Span) (floor : List ℕ) (rows : List Row) (row : Row) → IsKind (Checkpoint to target floor rows) → Contains rows row → IsRow floor to (has target) row
row_of to target floor rows row k c = All-contains (λ r. IsRow floor to (has target) r) rows row (All-from_recursion (λ r. IsRow floor to (has target) r) rows k.1.each) c

mark_of_row : (to : List ℕ) (target : List Span) (floor : List ℕ) (row : Row) (m : Mark) → IsRow floor to (has target) row → Contains row.marks m → IsMarkOfRow floor to row.newest m
mark_of_row to target floor row m r c = All-contains (λ x. IsMarkOfRow floor to row.newest x) row.marks m (All-from_recursion (λ x. IsMarkOfRow floor to row.newest x) row.marks r.each) c

-- ---- what the grammar says of ranges and of order

pub prev_range : (prev : Option Point) (stamp : Point) → IsPrev prev stamp → IsStampOrNone prev
prev_range None stamp before = tt
prev_range (Some p) stamp before = before.0

mark_range : (floor to : List ℕ) (newest : Point) (m : Mark) → IsMarkOfRow floor to newest m → IsMarkInRange m
mark_range floor to newest m mark = (mark.stamp, prev_range m.prev m.stamp mark.prev)

row_range : (floor to : List ℕ) (target : List ℕ → Bool) (row : Row) → IsRow floor to target row → IsRowInRange row
row_range floor to target row r = (
  r.name,
  r.newest,
  λ i d lt. mark_range floor to row.newest (get_or row.marks i d) (All-from_recursion (λ m. IsMarkOfRow floor to row.newest m) row.marks r.each i d lt),
)

pub rows_range : (to : List ℕ) (target : List ℕ → Bool) (floor : List ℕ) (rows : List Row) → IsCheckpoint to target floor rows → All IsRowInRange rows
rows_range to target floor rows k = λ i d lt. row_range floor to target (get_or rows i d) (All-from_recursion (λ r. IsRow floor to target r) rows k.each i d lt)

kind_range : (kind : Kind) → IsKind kind → HasBytes kind → IsKindInRange kind
kind_range (Precise from to write) k bytes = (k.0, k.1, (k.3.name, k.3.stamp, prev_range write.prev write.stamp k.3.prev))
kind_range (Imprecise from to target) k bytes = (k.0, k.1, k.3)
kind_range (Checkpoint to target floor rows) k bytes = (k.1.end_is, k.0, k.1.floor_is, rows_range to (has target) floor rows k.1)
kind_range (Body name stamp body) k bytes = (k.0, k.1, bytes)

pub message_range : (msg : Msg) → IsMessage msg → msg.stream < 4294967296 → HasBytes msg.kind → IsMsg msg
message_range msg m stream bytes =
    let time : msg.time < 18446744073709551616 = omega (arith, m.most) in
    let number : msg.number < 18446744073709551616 = omega (arith, m.number_most) in
    (time, stream, number, kind_range msg.kind m.kind bytes)

-- no mark of a row is after the row's newest stamp
pub rows_orderly : (to : List ℕ) (target : List ℕ → Bool) (floor : List ℕ) (rows : List Row) → IsCheckpoint to target floor rows
    → All (λ (row : Row). All (λ (m : Mark). ¬ Before row.newest m.stamp) row.marks) rows
rows_orderly to target floor rows k = λ i d lt i2 d2 lt2.
    (All-from_recursion (λ m. IsMarkOfRow floor to (get_or rows i d).newest m) (get_or rows i d).marks (All-from_recursion (λ r. IsRow floor to target r) rows k.each i d lt).each i2 d2 lt2).known

-- ---- stamps that were named

covered_now : (e : Entry) (j : List Entry) (s : Point) → IsStamp s → s.clock ≤ clock_brought e.event s.node → Covers (current_vector (e ∷ j)) s
covered_now e j s range le =
    let c : clock_of (current_vector (e ∷ j)) s.node ≡ current_clock (e ∷ j) s.node = clock_of-vector_of (current_clock (e ∷ j)) s.node range.known_node in
    let m : current_clock (e ∷ j) s.node ≡ max (current_clock j s.node) (clock_brought e.event s.node) = refl in
    (range.from_one, omega (arith, c, m, le))

own_clock : (write : WriteRec) (s : Point) → write.stamp ≡ s → s.clock ≤ cond (nat_eq s.node write.stamp.node) write.stamp.clock 0
own_clock write s e = subst (λ (p : Point). p.clock ≤ cond (nat_eq p.node write.stamp.node) write.stamp.clock 0) e (by write.stamp.clock write.stamp.node)
  where
    by : (c n : ℕ) → c ≤ cond (nat_eq n n) c 0
    by c n = grind (arith, nat_tests)

-- a stamp that a message of the grammar names is one, and its end covers it
kind_stamp : (k : Kind) (o : List ℕ) (s : Point) → IsKind k → ((x : WriteRec) × IsOf k x × (x.name ≡ o) × (x.stamp ≡ s)) ⊎ ((row : Row) × HasRow k row × (row.name ≡ o) × (row.newest ≡ s)) → IsStamp s × (s.clock ≤ clock_of (to_of k) s.node)
kind_stamp (Precise from to write) o s k t = elim t [
  | inl x ↦
      let e : write.stamp ≡ s = ap (λ (w : WriteRec). w.stamp) x.1 ∙ x.3 in
      subst (λ (p : Point). IsStamp p × (p.clock ≤ clock_of to p.node)) e (k.3.stamp, k.3.between.1)
  | inr r ↦ absurd r.1
]
kind_stamp (Imprecise from to target) o s k t = elim t [ inl x ↦ absurd x.1 | inr r ↦ absurd r.1 ]
kind_stamp (Body name stamp bytes) o s k t = elim t [ inl x ↦ absurd x.1 | inr r ↦ absurd r.1 ]
kind_stamp (Checkpoint to target floor rows) o s k t = elim t [
  | inl x ↦ absurd x.1
  | inr r ↦
      let row = row_of to target floor rows r.0 k r.1 in
      subst (λ (p : Point). IsStamp p × (p.clock ≤ clock_of to p.node)) r.3 (row.newest, row.covered.1)
]

event_stamp : (e : Entry) (j : List Entry) (event : Event) (o : List ℕ) (s : Point) → e.event ≡ event → IsSpelledEvent j event → NamesStamp event o s → Covers (current_vector (e ∷ j)) s
event_stamp e j (Wrote client write body after) o s is k t = covered_now e j s (subst (λ (p : Point). IsStamp p) t.1 k.0) (subst (λ (x : Event). s.clock ≤ clock_brought x s.node) (sym is) (own_clock write s t.1))
event_stamp e j (Accepted msg at) o s is k t = let r = kind_stamp msg.kind o s k t in covered_now e j s r.0 (subst (λ (x : Event). s.clock ≤ clock_brought x s.node) (sym is) r.1)
event_stamp e j _ o s is k t = absurd t

pub named_covered : (j : List Entry) → IsSpelled j → (o : List ℕ) (s : Point) → WasNamed j o s → Covers (current_vector j) s
named_covered [] spelled o s t = absurd t
named_covered (e ∷ j) spelled o s t = elim t [
  | inl now ↦ event_stamp e j e.event o s refl spelled.0 now
  | inr old ↦ vector_grows e j s (named_covered j spelled.1 o s old)
]

-- ---- writes that were told

told_event : (j : List Entry) (event : Event) (x : WriteRec) → IsSpelledEvent j event → TellsOf event x → IsStamp x.stamp × IsPrev x.prev x.stamp
told_event j (Wrote client write body after) x k t = subst (λ (w : WriteRec). IsStamp w.stamp × IsPrev w.prev w.stamp) t (k.0, k.1)
told_event j (Accepted msg at) x k t = by msg.kind k t
  where
    by : (q : Kind) → IsKind q → IsOf q x → IsStamp x.stamp × IsPrev x.prev x.stamp
    by (Precise from to write) k t = subst (λ (w : WriteRec). IsStamp w.stamp × IsPrev w.prev w.stamp) t (k.3.stamp, k.3.prev)
    by (Imprecise from to target) k t = absurd t
    by (Checkpoint to target floor rows) k t = absurd t
    by (Body name stamp bytes) k t = absurd t
told_event j _ x k t = absurd t

told_write : (j : List Entry) → IsSpelled j → (x : WriteRec) → HeardOf j x → IsStamp x.stamp × IsPrev x.prev x.stamp
told_write [] spelled x t = absurd t
told_write (e ∷ j) spelled x t = elim t [ inl now ↦ told_event j e.event x spelled.0 now | inr old ↦ told_write j spelled.1 x old ]

told_named : (j : List Entry) (x : WriteRec) → HeardOf j x → WasNamed j x.name x.stamp
told_named [] x t = absurd t
told_named (e ∷ j) x t = elim t [ inl now ↦ inl (by e.event now) | inr old ↦ inr (told_named j x old) ]
  where
    by : (event : Event) → TellsOf event x → NamesStamp event x.name x.stamp
    by (Wrote client write body after) t = (ap (λ (w : WriteRec). w.name) t, ap (λ (w : WriteRec). w.stamp) t)
    by (Accepted msg at) t = inl (x, t, refl, refl)
    by _ t = absurd t

-- ---- marks that were told

-- the mark follows an earlier stamp, and a stamp of the name that is not before it was named
abbrev MarkTold : List Entry → List ℕ → Mark → Type 0
MarkTold j o m = IsStamp m.stamp × IsPrev m.prev m.stamp × ((s : Point) × WasNamed j o s × ¬ Before s m.stamp)

irreflexive : (s : Point) → Before s s → ⊥
irreflexive s b = grind arith

mark_event : (e : Entry) (j : List Entry) (event : Event) (o : List ℕ) (m : Mark) → e.event ≡ event → IsSpelledEvent j event → TellsMark event o m → MarkTold (e ∷ j) o m × Covers (current_vector (e ∷ j)) m.stamp
mark_event e j (Wrote client write body after) o m is k t =
    let named : NamesStamp (Wrote client write body after) o m.stamp = (t.0, t.1) in (
      (subst (λ (p : Point). IsStamp p) t.1 k.0, subst (λ (p : Point). IsPrev m.prev p) t.1 (subst (λ (q : Option Point). IsPrev q write.stamp) t.2 k.1), (m.stamp, inl (subst (λ (x : Event). NamesStamp x o m.stamp) (sym is) named), irreflexive m.stamp)),
      event_stamp e j (Wrote client write body after) o m.stamp is k named,
    )
mark_event e j (Accepted msg at) o m is k t = by msg.kind refl k t
  where
    by : (q : Kind) → msg.kind ≡ q → IsKind q → ((x : WriteRec) × IsOf q x × (x.name ≡ o) × (x.stamp ≡ m.stamp) × (x.prev ≡ m.prev)) ⊎ ((row : Row) × HasRow q row × (row.name ≡ o) × Contains row.marks m)
        → MarkTold (e ∷ j) o m × Covers (current_vector (e ∷ j)) m.stamp
    by (Precise from to write) same k t = elim t [
      | inl x ↦
          let at_stamp : write.stamp ≡ m.stamp = ap (λ (w : WriteRec). w.stamp) x.1 ∙ x.3 in
          let at_prev : write.prev ≡ m.prev = ap (λ (w : WriteRec). w.prev) x.1 ∙ x.4 in
          let named : NamesStamp (Accepted msg at) o m.stamp = inl (write, subst (λ (y : Kind). IsOf y write) (sym same) refl, ap (λ (w : WriteRec). w.name) x.1 ∙ x.2, at_stamp) in (
            (subst (λ (p : Point). IsStamp p) at_stamp k.3.stamp, subst (λ (p : Point). IsPrev m.prev p) at_stamp (subst (λ (y : Option Point). IsPrev y write.stamp) at_prev k.3.prev), (m.stamp, inl (subst (λ (y : Event). NamesStamp y o m.stamp) (sym is) named), irreflexive m.stamp)),
            event_stamp e j (Accepted msg at) o m.stamp is (subst (λ (y : Kind). IsKind y) (sym same) k) named,
          )
      | inr r ↦ absurd r.1
    ]
    by (Imprecise from to target) same k t = elim t [ inl x ↦ absurd x.1 | inr r ↦ absurd r.1 ]
    by (Body name stamp bytes) same k t = elim t [ inl x ↦ absurd x.1 | inr r ↦ absurd r.1 ]
    by (Checkpoint to target floor rows) same k t = elim t [
      | inl x ↦ absurd x.1
      | inr r ↦
          let row = row_of to target floor rows r.0 k r.1 in
          let mark = mark_of_row to target floor r.0 m row r.3 in
          let named : NamesStamp (Accepted msg at) o r.0.newest = inr (r.0, subst (λ (y : Kind). HasRow y r.0) (sym same) r.1, r.2, refl) in (
            (mark.stamp, mark.prev, (r.0.newest, inl (subst (λ (y : Event). NamesStamp y o r.0.newest) (sym is) named), mark.known)),
            covered_now e j m.stamp mark.stamp (subst (λ (x : Event). m.stamp.clock ≤ clock_brought x m.stamp.node) (sym is) (subst (λ (y : Kind). m.stamp.clock ≤ clock_of (to_of y) m.stamp.node) (sym same) mark.between.1)),
          )
    ]
mark_event e j _ o m is k t = absurd t

told_mark : (j : List Entry) → IsSpelled j → (o : List ℕ) (m : Mark) → WasToldMark j o m → MarkTold j o m × Covers (current_vector j) m.stamp
told_mark [] spelled o m t = absurd t
told_mark (e ∷ j) spelled o m t = elim t [
  | inl now ↦ mark_event e j e.event o m refl spelled.0 now
  | inr old ↦
      let r = told_mark j spelled.1 o m old in
      ((r.0.0, r.0.1, (r.0.2.0, inr r.0.2.1, r.0.2.2)), vector_grows e j m.stamp r.1)
]

-- ---- floors

floor_event : (e : Entry) (j : List Entry) (event : Event) (w : ℕ) → w < 32 → e.event ≡ event → IsSpelledEvent j event → clock_of (floor_after event) w ≤ max (current_clock j w) (clock_brought event w)
floor_event e j (Cut at) w lt is k = let c : clock_of at w ≡ current_clock j w = ap (λ (v : List ℕ). clock_of v w) k ∙ clock_of-vector_of (current_clock j) w lt in omega (arith, c)
floor_event e j (Accepted msg at) w lt is k = by msg.kind k
  where
    by : (q : Kind) → IsKind q → clock_of (floor_in q) w ≤ max (current_clock j w) (clock_of (to_of q) w)
    by (Checkpoint to target floor rows) k = let l : clock_of floor w ≤ clock_of to w = k.1.rises w lt in omega (arith, l)
    by (Precise from to write) k = let z : clock_of zero_vector w ≡ 0 = clock_zero w in omega (arith, z)
    by (Imprecise from to target) k = let z : clock_of zero_vector w ≡ 0 = clock_zero w in omega (arith, z)
    by (Body name stamp bytes) k = let z : clock_of zero_vector w ≡ 0 = clock_zero w in omega (arith, z)
floor_event e j _ w lt is k = let z : clock_of zero_vector w ≡ 0 = clock_zero w in omega (arith, z)

floor_clock : (j : List Entry) → IsSpelled j → (w : ℕ) → w < 32 → clock_of (floor_of j) w ≤ current_clock j w
floor_clock [] spelled w lt = let z : clock_of zero_vector w ≡ 0 = clock_zero w in omega (arith, z)
floor_clock (e ∷ j) spelled w lt =
    let c : clock_of (floor_of (e ∷ j)) w ≡ max (clock_of (floor_of j) w) (clock_of (floor_after e.event) w) = clock_of-vector_of (λ n. max (clock_of (floor_of j) n) (clock_of (floor_after e.event) n)) w lt in
    let a : clock_of (floor_of j) w ≤ current_clock j w = floor_clock j spelled.1 w lt in
    let b : clock_of (floor_after e.event) w ≤ max (current_clock j w) (clock_brought e.event w) = floor_event e j e.event w lt refl spelled.0 in
    let m : current_clock (e ∷ j) w ≡ max (current_clock j w) (clock_brought e.event w) = refl in
    omega (arith, c, a, b, m)

floor_low : (j : List Entry) → IsSpelled j → Le (floor_of j) (current_vector j)
floor_low j spelled w lt = let c : clock_of (current_vector j) w ≡ current_clock j w = clock_of-vector_of (current_clock j) w lt in let a : clock_of (floor_of j) w ≤ current_clock j w = floor_clock j spelled w lt in omega (arith, c, a)

-- ---- bodies

short_accepted : (j : List Entry) → IsSpelled j → (o : List ℕ) (t : Point) (bytes : List ℕ) → HasAccepted j (Body o t bytes) → length bytes ≤ 65536
short_accepted [] spelled o t bytes a = absurd a
short_accepted (e ∷ j) spelled o t bytes a = elim a [ inl now ↦ by e.event spelled.0 now | inr old ↦ short_accepted j spelled.1 o t bytes old ]
  where
    by : (event : Event) → IsSpelledEvent j event → Accepts event (Body o t bytes) → length bytes ≤ 65536
    by (Accepted msg at) k is = (subst (λ (q : Kind). IsKind q) is k).2
    by _ k is = absurd is

short_written : (j : List Entry) → IsSpelled j → (x : WriteRec) (bytes dep : List ℕ) → SomeEvent (λ event. Writes event x bytes dep) j → length bytes ≤ 65536
short_written [] spelled x bytes dep a = absurd a
short_written (e ∷ j) spelled x bytes dep a = elim a [ inl now ↦ by e.event spelled.0 now | inr old ↦ short_written j spelled.1 x bytes dep old ]
  where
    by : (event : Event) → IsSpelledEvent j event → Writes event x bytes dep → length bytes ≤ 65536
    by (Wrote client write body after) k is = subst (λ (b : List ℕ). length b ≤ 65536) is.1 k.2
    by _ k is = absurd is

-- ---- turns

le_join : (v w : List ℕ) → Le v (join_of v w)
le_join v w n lt = let c : clock_of (join_of v w) n ≡ max (clock_of v n) (clock_of w n) = clock_of-vector_of (λ k. max (clock_of v k) (clock_of w k)) n lt in omega (arith, c)

joins : (from to position v : List ℕ) → from ≡ position → to ≡ join_of position v → Le from to
joins from to position v a b = subst (λ (x : List ℕ). Le x to) (sym a) (subst (λ (y : List ℕ). Le position y) (sym b) (le_join position v))

past : (position v : List ℕ) (s : Point) → IsStamp s → Covers v s → (Covers position s → ⊥) → Between position (join_of position (cut_of v s)) s
past position v s range c n =
    let lt : s.node < 32 = range.known_node in
    let a : clock_of (join_of position (cut_of v s)) s.node ≡ max (clock_of position s.node) (clock_of (cut_of v s) s.node) = clock_of-vector_of (λ k. max (clock_of position k) (clock_of (cut_of v s) k)) s.node lt in
    let b : clock_of (cut_of v s) s.node ≡ min (clock_of v s.node) (last_of s s.node) = clock_of-vector_of (λ k. min (clock_of v k) (last_of s k)) s.node lt in
    let d : s.clock ≤ last_of s s.node = own_last s in
    (above (clock_of position s.node) s.clock range.from_one (λ le. n (range.from_one, le)), within s.clock (clock_of position s.node) (clock_of (cut_of v s) s.node) (clock_of v s.node) (last_of s s.node) (clock_of (join_of position (cut_of v s)) s.node) a b d c.1)
  where
    own_last : (s : Point) → s.clock ≤ last_of s s.node
    own_last s = grind (arith, nat_tests)

    above : (p c : ℕ) → 1 ≤ c → (c ≤ p → ⊥) → p < c
    above p c one n = grind arith

    within : (c p q v l m : ℕ) → m ≡ max p q → q ≡ min v l → c ≤ l → c ≤ v → c ≤ m
    within c p q v l m a b d e = grind arith

pub turn_kind : (n : ℕ) (j : List Entry) (session : Standing) (kind : Kind) → IsSpelled j → IsKindInRange kind → IsTurn n j session (SendTurn kind) → IsKind kind
turn_kind n j session (Precise from to write) spelled range t =
    let x = t.3 in
    let told : HeardOf j write = known_told j write x.0.0 in
    let w = told_write j spelled write told in (
      range.0,
      range.1,
      joins from to session.position (cut_of (current_vector j) write.stamp) t.2 t.4,
      record {
        name = range.2.0;
        stamp = w.0;
        prev = w.1;
        between = subst (λ (v : List ℕ). Between v to write.stamp) (sym t.2) (subst (λ (v : List ℕ). Between session.position v write.stamp) (sym t.4)
            (past session.position (current_vector j) write.stamp w.0 (named_covered j spelled write.name write.stamp (told_named j write told)) x.0.2));
      },
    )
turn_kind n j session (Imprecise from to target) spelled range t = (
  range.0,
  range.1,
  elim t.4 [
    | inl all ↦ joins from to session.position (current_vector j) t.2 all.1
    | inr next ↦ joins from to session.position (below_of (current_vector j) next.0.stamp) t.2 next.2
  ],
  range.2,
)
turn_kind n j session (Body o s bytes) spelled range t = (
  range.0,
  range.1,
  elim (held_how j o s bytes t.3.0.3) [
    | inl a ↦ short_accepted j spelled o s bytes a
    | inr w ↦ short_written j spelled w.0 bytes w.1 w.2
  ],
)
turn_kind n j session (Checkpoint to target floor rows) spelled range t = absurd t

-- ---- checkpoints

not_low : (a b s : Point) → (Before b a → ⊥) → (Before a s → ⊥) → Before b s → ⊥
not_low a b s n m b2 = grind arith

marks_of_row : (floor to : List ℕ) (row : Row) (marks : List Mark) → ((m : Mark) → Contains marks m → IsMarkOfRow floor to row.newest m) → AllByRecursion (IsMarkOfRow floor to row.newest) marks
marks_of_row floor to row [] each = tt
marks_of_row floor to row (m ∷ ms) each = (each m (0, omega arith, refl), marks_of_row floor to row ms (λ x c. each x (suc c.0, omega (arith, c.1), c.2)))

rises_by : {A : Type 0} (R : A → A → Type 0) (xs : List A) → AllPairs R xs → IsAscending R xs
rises_by R [] all = tt
rises_by R (x ∷ []) all = (tt, tt)
rises_by R (x ∷ y ∷ xs) all = (all 0 1 x (omega arith) (omega arith), rises_by R (y ∷ xs) (λ i k d lt within. all (suc i) (suc k) d (omega arith) (omega arith)))

mark_between : (j : List Entry) (s : Point) → IsStamp s → Covers (current_vector j) s → (Covers (floor_of j) s → ⊥) → Between (floor_of j) (current_vector j) s
mark_between j s range c n = (above (clock_of (floor_of j) s.node) s.clock range.from_one (λ le. n (range.from_one, le)), c.1)
  where
    above : (p c : ℕ) → 1 ≤ c → (c ≤ p → ⊥) → p < c
    above p c one n = grind arith

pub snapshot_kind : (sets : List (List Span)) (n : ℕ) (j : List Entry) (names : List Span) (kind : Kind) → IsSpelled j → IsKindInRange kind → IsSnapshot sets n j names kind → IsKind kind
snapshot_kind sets n j names (Precise from to write) spelled range t = absurd t
snapshot_kind sets n j names (Imprecise from to target) spelled range t = absurd t
snapshot_kind sets n j names (Body o s bytes) spelled range t = absurd t
snapshot_kind sets n j names (Checkpoint to target floor rows) spelled range t = (
  range.1,
  record {
    end_is = range.0;
    floor_is = range.2;
    rises = subst (λ (v : List ℕ). Le v to) (sym t.1) (subst (λ (v : List ℕ). Le (floor_of j) v) (sym t.0) (floor_low j spelled));
    each = each_row rows (λ row c. c);
    in_order = rises_by IsEarlierRow rows t.5;
  },
)
  where
    one_row : (row : Row) → Contains rows row → IsRow floor to (has target) row
    one_row row c =
        let s : IsSnapshotRow j target row = t.3 row c in
        let r = All-contains IsRowInRange rows row range.3 c in
        record {
          name = r.0;
          outside = s.outside;
          newest = r.1;
          covered = subst (λ (v : List ℕ). Covers v row.newest) (sym t.0) (named_covered j spelled row.name row.newest s.newest.0);
          each = marks_of_row floor to row row.marks (λ m d.
              let known : IsMark j row.name m = (s.marks m).0 d in
              let told = told_mark j spelled row.name m (known_mark_told j row.name m known.0) in
              record {
                stamp = told.0.0;
                prev = told.0.1;
                between = subst (λ (v : List ℕ). Between v to m.stamp) (sym t.1) (subst (λ (v : List ℕ). Between (floor_of j) v m.stamp) (sym t.0) (mark_between j m.stamp told.0.0 told.1 known.1));
                known = λ b. not_low told.0.2.0 row.newest m.stamp (s.newest.1 told.0.2.0 told.0.2.1) told.0.2.2 b;
              });
          in_order = rises_by IsEarlierMark row.marks s.marks_rise;
        }

    each_row : (rs : List Row) → ((row : Row) → Contains rs row → Contains rows row) → AllByRecursion (IsRow floor to (has target)) rs
    each_row [] within = tt
    each_row (row ∷ rs) within = (one_row row (within row (0, omega arith, refl)), each_row rs (λ x c. within x (suc c.0, omega (arith, c.1), c.2)))

-- ---- messages

pub message_spelled : (kind : Kind) (msg : Msg) (number heard : ℕ) → IsKind kind → msg.kind ≡ kind → msg.number ≡ number + 1 → number ≤ heard → heard < msg.time → msg.time ≤ 4611686018427387903 → IsMessage msg
message_spelled kind msg number heard k same next low up most = record {
  from_one = omega (arith, up);
  most = most;
  number_from_one = omega (arith, next);
  number_most = omega (arith, next, low, up, most);
  kind = subst (λ (q : Kind). IsKind q) (sym same) k;
}

pub turn_spelled : (n : ℕ) (j : List Entry) (a : SessionMeaning) (time stream : ℕ) (s : Step) → IsSpelled j → IsStepInRange s → a.standing.number ≤ a.standing.time → a.standing.time < time → time ≤ 4611686018427387903
    → IsNextTurn n j a time (event_of stream s) → IsStepSpelled s
turn_spelled n j a time stream (step.Sent msg) spelled range low up most next =
    message_spelled msg.kind msg a.standing.number a.standing.time (turn_kind n j a.standing msg.kind spelled range.3 next.3) refl next.1 low
    (subst (λ (t : ℕ). a.standing.time < t) (sym next.2) up) (subst (λ (t : ℕ). t ≤ 4611686018427387903) (sym next.2) most)
turn_spelled n j a time stream step.Idle spelled range low up most next = tt
turn_spelled n j a time stream (step.Stale cut) spelled range low up most next = tt

-- so it is of a turn that may be refused
pub any_spelled : {E : Type 0} (r : Result Step E) (j : List Entry) (s : Stores) (a : SessionMeaning) (time : ℕ) → a.standing.number ≤ a.standing.time → a.standing.time < time → time ≤ 4611686018427387903
    → IfOk r (λ x. (n : ℕ) → IsTied n j s → IsNextTurn n j a time (event_of a.stream x)) → IfOk r IsStepInRange → IfOk r (λ x. (n : ℕ) → IsTied n j s → IsStepSpelled x)
any_spelled (Ok x) j s a time low up most next range = λ n tied. turn_spelled n j a time a.stream x tied.spelled range low up most (next n tied)
any_spelled (Err fault) j s a time low up most next range = tt
