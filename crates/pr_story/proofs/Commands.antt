-- One command gives one event.
use Rattle.std.proofs.Common.{◌≡◌, ℕ, ◌<◌, ◌+◌, ◌⊎◌, inl, inr, List, [], ◌∷◌, refl, sym, ◌∙◌, ap, subst, arith}
use Rattle.std.specs.Prelude.{Bool, Option}
use Rattle.pr_stamps.specs.Point.{Point}
use Rattle.pr_vectors.specs.Vector.{Le, join_of}
use Rattle.pr_sets.specs.Spans.{has}
use Rattle.pr_names.specs.Span.{Span}
use Rattle.pr_inval.specs.declared.kind.Kind.{Kind}
use Rattle.pr_inval.specs.declared.kind.Kind.TheVariants.{Precise, Imprecise, Checkpoint, Body}
use Rattle.pr_inval.specs.declared.msg.Msg.{Msg}
use Rattle.pr_inval.specs.declared.write_rec.WriteRec.{WriteRec}
use Rattle.pr_story.specs.declared.entry.Entry.{Entry}
use Rattle.pr_story.specs.declared.cause.Cause.{Cause}
use Rattle.pr_story.specs.declared.event.Event.{Event}
use Rattle.pr_story.specs.declared.event.Event.TheVariants.{Wrote, Attached, Sent, Idle, Stale, Accepted, Gapped, Missing, Down, Answered, Behind, Moved, Cut, Dropped, Conflicts, State}
use Rattle.pr_inval.specs.Points.{from_of, to_of}
use Rattle.pr_story.specs.History.{Plan, NodeEntry, WasSent, journal, current_clock, current_vector}
use Rattle.pr_story.specs.Told.{all_sets, IsStart}
use Rattle.pr_story.specs.Knowledge.{WasNamed, IsNewest, IsGone, IsCoveredMark, IsNewestKnown, IsAnswer, IsFound, floor_of}
use Rattle.pr_story.specs.Clients.{client_node, client_vector}
use Rattle.pr_story.specs.Turns.{IsSnapshot, IsTurn, Turn, StaleTurn, IdleTurn, SendTurn, standing}
use Rattle.pr_story.specs.Commands.{IsNoCheckpoint}
use Rattle.pr_story.specs.Lawful.{IsLawful, Valid, IsPlaced, HasCause, heard_time}
use Rattle.pr_story.specs.Commands.{Command, ToWrite, ToRead, ToMove, ToAttach, ToSend, ToCheckpoint, ToDeliver, ToEnd, ToCut, ToDrop, ToFindConflicts, ToTellState, IsCheckpoint, Gives}
use Rattle.pr_story.proofs.World.{told_one}
use Rattle.pr_story.proofs.Known.{same_point, known_told}
use Rattle.pr_story.proofs.Steps.{valid_world, entry_at}
use Rattle.pr_story.proofs.Alike.{greatest_one}
use Rattle.pr_story.proofs.Lines.{sent_once}
use Rattle.pr_story.proofs.OneAnswer.{all_one, answer_one, found_one, snapshot_one, start_one}
use Rattle.pr_story.proofs.OneTurn.{turn_one}
use Rattle.pr_story.specs.Statements.{CommandsDetermine}

-- ---- one command

same_write : (x y : WriteRec) → x.name ≡ y.name → x.stamp ≡ y.stamp → x.prev ≡ y.prev → x.gone ≡ y.gone → x ≡ y
same_write x y n s p g =
    ap (λ (o : List ℕ). let w : WriteRec = record { name = o; stamp = x.stamp; prev = x.prev; gone = x.gone } in w) n
    ∙ ap (λ (t : Point). let w : WriteRec = record { name = y.name; stamp = t; prev = x.prev; gone = x.gone } in w) s
    ∙ ap (λ (q : Option Point). let w : WriteRec = record { name = y.name; stamp = y.stamp; prev = q; gone = x.gone } in w) p
    ∙ ap (λ (b : Bool). let w : WriteRec = record { name = y.name; stamp = y.stamp; prev = y.prev; gone = b } in w) g

abbrev turn_of : Event → Turn
turn_of (Sent msg) = SendTurn msg.kind
turn_of (Stale stream cut) = StaleTurn cut
turn_of _ = IdleTurn

no_snapshot : (sets : List (List Span)) (n : ℕ) (j : List Entry) (names : List Span) (k : Kind) → IsNoCheckpoint k → IsSnapshot sets n j names k → ⊥
no_snapshot sets n j names (Checkpoint to target floor rows) c s = c
no_snapshot sets n j names (Precise a b d) c s = s
no_snapshot sets n j names (Imprecise a b d) c s = s
no_snapshot sets n j names (Body a b d) c s = s

no_turn : (n : ℕ) (j : List Entry) (st : _) (k : Kind) → IsCheckpoint k → IsTurn n j st (SendTurn k) → ⊥
no_turn n j st (Checkpoint to target floor rows) c t = t
no_turn n j st (Precise a b d) c t = c
no_turn n j st (Imprecise a b d) c t = c
no_turn n j st (Body a b d) c t = c

abbrev IsNoDelivery : Command → Type 0
IsNoDelivery (ToDeliver s k) = ⊥
IsNoDelivery _ = Unit {0}

is_delivery : (command : Command) → IsNoDelivery command ⊎ ((s : ℕ) × (k : ℕ) × (command ≡ ToDeliver s k))
is_delivery (ToDeliver s k) = inr (s, k, refl)
is_delivery _ = inl tt

clock_same : (c d a b : ℕ) → c ≡ a + 1 → a < d → d ≡ b + 1 → b < c → c ≡ d
clock_same c d a b p q r s = omega arith

module _ (plan : Plan) (h : List NodeEntry) (valid : Valid plan h) (n t u ca cb : ℕ) where
  -- a client is behind or it is not
  late : (client other : ℕ) (needs : List ℕ) → client ≡ other → Le (client_vector h client) (current_vector (journal h n)) → needs ≡ client_vector h other → (Le needs (current_vector (journal h n)) → ⊥) → ⊥
  late client other needs same le is behind = behind (subst (λ (v : List ℕ). Le v (current_vector (journal h n))) (ap (λ (c : ℕ). client_vector h c) same ∙ sym is) le)

  behind_one : (client other : ℕ) (needs need has had : List ℕ) → client ≡ other → needs ≡ client_vector h client → need ≡ client_vector h other → has ≡ had → Behind client needs has ≡ Behind other need had
  behind_one client other needs need has had same p q e =
      let n : needs ≡ need = p ∙ ap (λ (c : ℕ). client_vector h c) same ∙ sym q in
      cc

  -- the two messages of a stream
  sent_same : (a b : Msg) → IsLawful plan h (entry_at n t ca (Sent a)) → IsLawful plan h (entry_at n u cb (Sent b)) → t ≡ u → a.stream ≡ b.stream → a.kind ≡ b.kind → Sent a ≡ Sent b
  sent_same a b l k times streams kinds =
      let numbers : a.number ≡ b.number = l.may_come.0 ∙ ap (λ (s : ℕ). (standing plan h s).number + 1) streams ∙ sym k.may_come.0 in
      let sent_at : a.time ≡ b.time = l.may_come.1 ∙ times ∙ sym k.may_come.1 in
      ap (λ (m : Msg). Sent m) (
      ap (λ (x : ℕ). let m : Msg = record { time = x; stream = a.stream; number = a.number; kind = a.kind } in m) sent_at
      ∙ ap (λ (x : ℕ). let m : Msg = record { time = b.time; stream = x; number = a.number; kind = a.kind } in m) streams
      ∙ ap (λ (x : ℕ). let m : Msg = record { time = b.time; stream = b.stream; number = x; kind = a.kind } in m) numbers
      ∙ ap (λ (x : Kind). let m : Msg = record { time = b.time; stream = b.stream; number = b.number; kind = x } in m) kinds)

  turned : (s v c : ℕ) (event : Event) → IsLawful plan h (entry_at n v c event) → Gives (ToSend s) n event → IsTurn n (journal h n) (standing plan h s) (turn_of event)
  turned s v c (Sent msg) l g = subst (λ (k : ℕ). IsTurn n (journal h n) (standing plan h k) (SendTurn msg.kind)) g.0 (elim l.may_come.2 [
    | inl turn ↦ turn
    | inr snap ↦ absurd (no_snapshot (plan.sets n) n (journal h n) (plan.stream msg.stream).names msg.kind g.1 snap)
  ])
  turned s v c (Idle stream) l g = subst (λ (k : ℕ). IsTurn n (journal h n) (standing plan h k) IdleTurn) g l.may_come
  turned s v c (Stale stream cut) l g = subst (λ (k : ℕ). IsTurn n (journal h n) (standing plan h k) (StaleTurn cut)) g l.may_come
  turned s v c _ l g = absurd g

  turn_same : (s : ℕ) (a b : Event) → IsLawful plan h (entry_at n t ca a) → IsLawful plan h (entry_at n u cb b) → t ≡ u → Gives (ToSend s) n a → Gives (ToSend s) n b → turn_of a ≡ turn_of b → a ≡ b
  turn_same s (Sent a) (Sent b) l k times g i turns = let kinds : a.kind ≡ b.kind = cc in sent_same a b l k times (g.0 ∙ sym i.0) kinds
  turn_same s (Sent a) (Idle y) l k times g i turns = cc
  turn_same s (Sent a) (Stale y cut) l k times g i turns = cc
  turn_same s (Idle x) (Sent b) l k times g i turns = cc
  turn_same s (Idle x) (Idle y) l k times g i turns = ap (λ (z : ℕ). Idle z) (g ∙ sym i)
  turn_same s (Idle x) (Stale y cut) l k times g i turns = cc
  turn_same s (Stale x cut) (Sent b) l k times g i turns = cc
  turn_same s (Stale x cut) (Idle y) l k times g i turns = cc
  turn_same s (Stale x cut) (Stale y other) l k times g i turns = let cuts : cut ≡ other = cc in ap (λ (z : ℕ). Stale z cut) (g ∙ sym i) ∙ ap (λ (z : List ℕ). Stale y z) cuts
  turn_same s (Sent a) _ l k times g i turns = absurd i
  turn_same s (Idle x) _ l k times g i turns = absurd i
  turn_same s (Stale x cut) _ l k times g i turns = absurd i
  turn_same s _ b l k times g i turns = absurd g

  turns_one : (s : ℕ) (a b : Event) → IsLawful plan h (entry_at n t ca a) → IsLawful plan h (entry_at n u cb b) → t ≡ u → Gives (ToSend s) n a → Gives (ToSend s) n b → a ≡ b
  turns_one s a b l k times g i =
      turn_same s a b l k times g i
      (turn_one n (journal h n)
      (λ x y p q e. told_one h (valid_world plan h valid) n n x y (known_told (journal h n) x p) (known_told (journal h n) y q) e)
      (standing plan h s) (turn_of a) (turn_of b) (turned s t ca a l g) (turned s u cb b k i))

  snapped : (s v c : ℕ) (msg : Msg) → IsLawful plan h (entry_at n v c (Sent msg)) → Gives (ToCheckpoint s) n (Sent msg) → IsSnapshot (plan.sets n) n (journal h n) (plan.stream s).names msg.kind
  snapped s v c msg l g = subst (λ (k : ℕ). IsSnapshot (plan.sets n) n (journal h n) (plan.stream k).names msg.kind) g.0 (elim l.may_come.2 [
    | inl turn ↦ absurd (no_turn n (journal h n) (standing plan h msg.stream) msg.kind g.1 turn)
    | inr snap ↦ snap
  ])

  one_message : (a b : Msg) (s k : ℕ) → WasSent h a → WasSent h b → (a.stream ≡ s) × (a.number ≡ k) → (b.stream ≡ s) × (b.number ≡ k) → a ≡ b
  one_message a b s k p q g i = sent_once plan h a b valid p q (g.0 ∙ sym i.0, g.1 ∙ sym i.1)

  event_one : (command : Command) (a b : Event) → IsLawful plan h (entry_at n t ca a) → IsLawful plan h (entry_at n u cb b) → t ≡ u → Gives command n a → Gives command n b → a ≡ b
  event_one (ToWrite c o body gone) (Wrote client x bytes after) (Wrote other y others before) l k times g i =
      let v : after ≡ before = l.may_come.1 ∙ sym k.may_come.1 in
      let clocks : x.stamp.clock ≡ y.stamp.clock = clock_same x.stamp.clock y.stamp.clock (current_clock (journal h n) l.may_come.4.0) (current_clock (journal h n) k.may_come.4.0)
      l.may_come.4.2 (k.may_come.3 l.may_come.4.0 l.may_come.4.1) k.may_come.4.2 (l.may_come.3 k.may_come.4.0 k.may_come.4.1) in
      let stamps : x.stamp ≡ y.stamp = same_point x.stamp y.stamp clocks (l.may_come.2 ∙ sym k.may_come.2) in
      let names : x.name ≡ y.name = g.1 ∙ sym i.1 in
      let prevs : x.prev ≡ y.prev = greatest_one (WasNamed (journal h n) y.name) x.prev y.prev (subst (λ (q : List ℕ). IsNewestKnown (journal h n) q x.prev) names l.may_come.5) k.may_come.5 in
      let writes : x ≡ y = same_write x y names stamps prevs (g.3 ∙ sym i.3) in
      ap (λ (z : ℕ). Wrote z x bytes after) (g.0 ∙ sym i.0) ∙ ap (λ (z : WriteRec). Wrote other z bytes after) writes
      ∙ ap (λ (z : List ℕ). Wrote other y z after) (g.2 ∙ sym i.2) ∙ ap (λ (z : List ℕ). Wrote other y others z) v
  event_one (ToWrite c o body gone) (Wrote client x bytes after) (Behind other needs has) l k times g i =
      absurd (late client other needs (g.0 ∙ sym i) l.may_come.7 k.may_come.0 k.may_come.1)
  event_one (ToWrite c o body gone) (Behind other needs has) (Wrote client x bytes after) l k times g i =
      absurd (late client other needs (i.0 ∙ sym g) k.may_come.7 l.may_come.0 l.may_come.1)
  event_one (ToWrite c o body gone) (Behind client needs has) (Behind other need had) l k times g i =
      behind_one client other needs need has had (g ∙ sym i) l.may_come.0 k.may_come.0 (l.may_come.2 ∙ sym k.may_come.2)
  event_one (ToWrite c o body gone) (Wrote client x bytes after) _ l k times g i = absurd i
  event_one (ToWrite c o body gone) (Behind client needs has) _ l k times g i = absurd i
  event_one (ToWrite c o body gone) _ b l k times g i = absurd g
  event_one (ToRead c o) (Answered client name answer at) (Answered other too reply to) l k times g i =
      let names : name ≡ too = g.1 ∙ sym i.1 in
      let replies : answer ≡ reply = answer_one h (valid_world plan h valid) (plan.sets n) n too answer reply
      (subst (λ (q : List ℕ). IsAnswer (IsNewest h (current_vector (journal h n)) q) (IsGone h q) (plan.sets n) n (journal h n) q answer) names l.may_come.0) k.may_come.0 in
      let ats : at ≡ to = l.may_come.1 ∙ sym k.may_come.1 in
      let clients : client ≡ other = g.0 ∙ sym i.0 in
      cc
  event_one (ToRead c o) (Answered client name answer at) (Behind other needs has) l k times g i =
      absurd (late client other needs (g.0 ∙ sym i) l.may_come.2 k.may_come.0 k.may_come.1)
  event_one (ToRead c o) (Behind other needs has) (Answered client name answer at) l k times g i =
      absurd (late client other needs (i.0 ∙ sym g) k.may_come.2 l.may_come.0 l.may_come.1)
  event_one (ToRead c o) (Behind client needs has) (Behind other need had) l k times g i =
      behind_one client other needs need has had (g ∙ sym i) l.may_come.0 k.may_come.0 (l.may_come.2 ∙ sym k.may_come.2)
  event_one (ToRead c o) (Answered client name answer at) _ l k times g i = absurd i
  event_one (ToRead c o) (Behind client needs has) _ l k times g i = absurd i
  event_one (ToRead c o) _ b l k times g i = absurd g
  event_one (ToMove c m) (Moved client) (Moved other) l k times g i = ap (λ (z : ℕ). Moved z) (g.0 ∙ sym i.0)
  event_one (ToMove c m) (Moved client) _ l k times g i = absurd i
  event_one (ToMove c m) _ b l k times g i = absurd g
  event_one (ToAttach s) (Attached x at) (Attached y to) l k times g i =
      let streams : x ≡ y = g ∙ sym i in
      let starts : at ≡ to = start_one (plan.sets n) n (journal h n) (plan.stream x).names at to l.may_come (subst (λ (z : ℕ). IsStart (plan.sets n) n (journal h n) (plan.stream z).names to) (sym streams) k.may_come) in
      cc
  event_one (ToAttach s) (Attached x at) _ l k times g i = absurd i
  event_one (ToAttach s) _ b l k times g i = absurd g
  event_one (ToSend s) a b l k times g i = turns_one s a b l k times g i
  event_one (ToCheckpoint s) (Sent a) (Sent b) l k times g i =
      sent_same a b l k times (g.0 ∙ sym i.0)
      (snapshot_one h (valid_world plan h valid) n (plan.sets n) (plan.stream s).names a.kind b.kind (snapped s t ca a l g) (snapped s u cb b k i))
  event_one (ToCheckpoint s) (Sent a) _ l k times g i = absurd i
  event_one (ToCheckpoint s) _ b l k times g i = absurd g
  event_one (ToDeliver s m) (Accepted a at) (Accepted b to) l k times g i =
      let same : a ≡ b = one_message a b s m l.cause k.cause g i in
      let ats : at ≡ to = l.may_come.1 ∙ ap (λ (z : Msg). join_of (current_vector (journal h n)) (to_of z.kind)) same ∙ sym k.may_come.1 in
      ap (λ (z : Msg). Accepted z at) same ∙ ap (λ (z : List ℕ). Accepted b z) ats
  event_one (ToDeliver s m) (Gapped a at) (Gapped b to) l k times g i =
      ap (λ (z : Msg). Gapped z at) (one_message a b s m l.cause k.cause g i) ∙ ap (λ (z : List ℕ). Gapped b z) (l.may_come.2 ∙ sym k.may_come.2)
  event_one (ToDeliver s m) (Accepted a at) (Gapped b has) l k times g i =
      absurd (k.may_come.1 (subst (λ (z : Msg). Le (from_of z.kind) (current_vector (journal h n))) (one_message a b s m l.cause k.cause g i) l.may_come.0))
  event_one (ToDeliver s m) (Gapped a has) (Accepted b at) l k times g i =
      absurd (l.may_come.1 (subst (λ (z : Msg). Le (from_of z.kind) (current_vector (journal h n))) (one_message b a s m k.cause l.cause i g) k.may_come.0))
  event_one (ToDeliver s m) (Accepted a at) (Missing y number) l k times g i = absurd (k.cause a l.cause (g.0 ∙ sym i.0) (g.1 ∙ sym i.1))
  event_one (ToDeliver s m) (Gapped a has) (Missing y number) l k times g i = absurd (k.cause a l.cause (g.0 ∙ sym i.0) (g.1 ∙ sym i.1))
  event_one (ToDeliver s m) (Missing x number) (Accepted b at) l k times g i = absurd (l.cause b k.cause (i.0 ∙ sym g.0) (i.1 ∙ sym g.1))
  event_one (ToDeliver s m) (Missing x number) (Gapped b has) l k times g i = absurd (l.cause b k.cause (i.0 ∙ sym g.0) (i.1 ∙ sym g.1))
  event_one (ToDeliver s m) (Missing x number) (Missing y other) l k times g i = ap (λ (z : ℕ). Missing z number) (g.0 ∙ sym i.0) ∙ ap (λ (z : ℕ). Missing y z) (g.1 ∙ sym i.1)
  event_one (ToDeliver s m) (Accepted a at) _ l k times g i = absurd i
  event_one (ToDeliver s m) (Gapped a has) _ l k times g i = absurd i
  event_one (ToDeliver s m) (Missing x number) _ l k times g i = absurd i
  event_one (ToDeliver s m) _ b l k times g i = absurd g
  event_one (ToEnd s cause) (Down x why) (Down y other) l k times g i = ap (λ (z : ℕ). Down z why) (g.0 ∙ sym i.0) ∙ ap (λ (z : Cause). Down y z) (g.1 ∙ sym i.1)
  event_one (ToEnd s cause) (Down x why) _ l k times g i = absurd i
  event_one (ToEnd s cause) _ b l k times g i = absurd g
  event_one (ToCut m) (Cut at) (Cut to) l k times g i = ap (λ (z : List ℕ). Cut z) (l.may_come ∙ sym k.may_come)
  event_one (ToCut m) (Cut at) _ l k times g i = absurd i
  event_one (ToCut m) _ b l k times g i = absurd g
  event_one (ToDrop m o) (Dropped x) (Dropped y) l k times g i = ap (λ (z : List ℕ). Dropped z) (g.1 ∙ sym i.1)
  event_one (ToDrop m o) (Dropped x) _ l k times g i = absurd i
  event_one (ToDrop m o) _ b l k times g i = absurd g
  event_one (ToFindConflicts m o) (Conflicts x a) (Conflicts y b) l k times g i =
      let names : x ≡ y = g.1 ∙ sym i.1 in
      let finds : a ≡ b = found_one (IsCoveredMark h (current_vector (journal h n)) (floor_of (journal h n)) y) (plan.sets n) n (journal h n) y a b
      (subst (λ (q : List ℕ). IsFound (IsCoveredMark h (current_vector (journal h n)) (floor_of (journal h n)) q) (plan.sets n) n (journal h n) q a) names l.may_come) k.may_come in
      cc
  event_one (ToFindConflicts m o) (Conflicts x a) _ l k times g i = absurd i
  event_one (ToFindConflicts m o) _ b l k times g i = absurd g
  event_one (ToTellState m) (State a b c d) (State e f p q) l k times g i =
      let ats : a ≡ e = l.may_come.0 ∙ sym k.may_come.0 in
      let cuts : b ≡ f = l.may_come.1 ∙ sym k.may_come.1 in
      let floors : c ≡ p = l.may_come.2 ∙ sym k.may_come.2 in
      let all : d ≡ q = all_one n (journal h n) (all_sets (plan.sets n)) d q l.may_come.3 k.may_come.3 in
      cc
  event_one (ToTellState m) (State a b c d) _ l k times g i = absurd i
  event_one (ToTellState m) _ b l k times g i = absurd g

  -- ---- times

  heard_by : Command → ℕ
  heard_by (ToAttach s) = (standing plan h s).time
  heard_by (ToSend s) = (standing plan h s).time
  heard_by (ToCheckpoint s) = (standing plan h s).time
  heard_by (ToEnd s cause) = (standing plan h s).time
  heard_by _ = 0

  stream_heard : (x s : ℕ) → x ≡ s → (standing plan h x).time ≡ (standing plan h s).time
  stream_heard x s e = ap (λ (z : ℕ). (standing plan h z).time) e

  heard_is : (command : Command) (a : Event) → IsNoDelivery command → Gives command n a → heard_time (standing plan h) a ≡ heard_by command
  unfolding heard_by
  heard_is (ToWrite c o body gone) (Wrote client x bytes after) d g = refl
  heard_is (ToWrite c o body gone) (Behind client needs has) d g = refl
  heard_is (ToRead c o) (Answered client name answer at) d g = refl
  heard_is (ToRead c o) (Behind client needs has) d g = refl
  heard_is (ToMove c m) (Moved client) d g = refl
  heard_is (ToAttach s) (Attached x at) d g = stream_heard x s g
  heard_is (ToSend s) (Sent msg) d g = stream_heard msg.stream s g.0
  heard_is (ToSend s) (Idle x) d g = stream_heard x s g
  heard_is (ToSend s) (Stale x cut) d g = stream_heard x s g
  heard_is (ToCheckpoint s) (Sent msg) d g = stream_heard msg.stream s g.0
  heard_is (ToEnd s cause) (Down x why) d g = stream_heard x s g.0
  heard_is (ToCut m) (Cut at) d g = refl
  heard_is (ToDrop m o) (Dropped x) d g = refl
  heard_is (ToFindConflicts m o) (Conflicts x a) d g = refl
  heard_is (ToTellState m) (State a b c d) e g = refl
  heard_is (ToDeliver s k) a d g = absurd d
  heard_is _ _ d g = absurd g

  delivery_heard : (s m : ℕ) (a b : Event) → HasCause h n a → HasCause h n b → Gives (ToDeliver s m) n a → Gives (ToDeliver s m) n b → heard_time (standing plan h) a ≡ heard_time (standing plan h) b
  delivery_heard s m (Accepted a at) (Accepted b to) p q g i = ap (λ (z : Msg). z.time) (one_message a b s m p q g i)
  delivery_heard s m (Accepted a at) (Gapped b has) p q g i = ap (λ (z : Msg). z.time) (one_message a b s m p q g i)
  delivery_heard s m (Gapped a has) (Accepted b at) p q g i = ap (λ (z : Msg). z.time) (one_message a b s m p q g i)
  delivery_heard s m (Gapped a has) (Gapped b had) p q g i = ap (λ (z : Msg). z.time) (one_message a b s m p q g i)
  delivery_heard s m (Accepted a at) (Missing y number) p q g i = absurd (q a p (g.0 ∙ sym i.0) (g.1 ∙ sym i.1))
  delivery_heard s m (Gapped a has) (Missing y number) p q g i = absurd (q a p (g.0 ∙ sym i.0) (g.1 ∙ sym i.1))
  delivery_heard s m (Missing x number) (Accepted b at) p q g i = absurd (p b q (i.0 ∙ sym g.0) (i.1 ∙ sym g.1))
  delivery_heard s m (Missing x number) (Gapped b has) p q g i = absurd (p b q (i.0 ∙ sym g.0) (i.1 ∙ sym g.1))
  delivery_heard s m (Missing x number) (Missing y other) p q g i = refl
  delivery_heard s m (Accepted a at) _ p q g i = absurd i
  delivery_heard s m (Gapped a has) _ p q g i = absurd i
  delivery_heard s m (Missing x number) _ p q g i = absurd i
  delivery_heard s m _ b p q g i = absurd g

  heard_one : (command : Command) (a b : Event) → HasCause h n a → HasCause h n b → Gives command n a → Gives command n b → heard_time (standing plan h) a ≡ heard_time (standing plan h) b
  heard_one command a b p q g i = elim (is_delivery command) [
    | inl none ↦ heard_is command a none g ∙ sym (heard_is command b none i)
    | inr some ↦ delivery_heard some.0 some.1 a b p q (subst (λ (c : Command). Gives c n a) some.2 g) (subst (λ (c : Command). Gives c n b) some.2 i)
  ]

  pub one_event : (command : Command) (a b : Event) → IsLawful plan h (entry_at n t ca a) → IsLawful plan h (entry_at n u cb b) → Gives command n a → Gives command n b → (t ≡ u) × (a ≡ b)
  one_event command a b l k g i =
      let heard : heard_time (standing plan h) a ≡ heard_time (standing plan h) b = heard_one command a b l.cause k.cause g i in
      let times : t ≡ u = omega (arith, l.time, k.time) in
      (times, event_one command a b l k times g i)

-- ---- nodes

module _ (plan : Plan) (h : List NodeEntry) where
  pub node_of : Command → ℕ
  node_of (ToWrite c o body gone) = client_node plan h c
  node_of (ToRead c o) = client_node plan h c
  node_of (ToMove c m) = m
  node_of (ToAttach s) = (plan.stream s).destination
  node_of (ToSend s) = (plan.stream s).source
  node_of (ToCheckpoint s) = (plan.stream s).source
  node_of (ToDeliver s k) = (plan.stream s).destination
  node_of (ToEnd s cause) = (plan.stream s).destination
  node_of (ToCut m) = m
  node_of (ToDrop m o) = m
  node_of (ToFindConflicts m o) = m
  node_of (ToTellState m) = m

  at_client : (n x c : ℕ) → n ≡ client_node plan h x → x ≡ c → n ≡ client_node plan h c
  at_client n x c p e = p ∙ ap (λ (z : ℕ). client_node plan h z) e

  at_source : (n x s : ℕ) → n ≡ (plan.stream x).source → x ≡ s → n ≡ (plan.stream s).source
  at_source n x s p e = p ∙ ap (λ (z : ℕ). (plan.stream z).source) e

  at_end : (n x s : ℕ) → n ≡ (plan.stream x).destination → x ≡ s → n ≡ (plan.stream s).destination
  at_end n x s p e = p ∙ ap (λ (z : ℕ). (plan.stream z).destination) e

  pub node_is : (command : Command) (n : ℕ) (a : Event) → IsPlaced plan h n a → Gives command n a → n ≡ node_of command
  unfolding node_of
  node_is (ToWrite c o body gone) n (Wrote client x bytes after) p g = at_client n client c p g.0
  node_is (ToWrite c o body gone) n (Behind client needs has) p g = at_client n client c p g
  node_is (ToRead c o) n (Answered client name answer at) p g = at_client n client c p g.0
  node_is (ToRead c o) n (Behind client needs has) p g = at_client n client c p g
  node_is (ToMove c m) n (Moved client) p g = g.1
  node_is (ToAttach s) n (Attached x at) p g = at_end n x s p g
  node_is (ToSend s) n (Sent msg) p g = at_source n msg.stream s p g.0
  node_is (ToSend s) n (Idle x) p g = at_source n x s p g
  node_is (ToSend s) n (Stale x cut) p g = at_source n x s p g
  node_is (ToCheckpoint s) n (Sent msg) p g = at_source n msg.stream s p g.0
  node_is (ToDeliver s k) n (Accepted msg at) p g = at_end n msg.stream s p g.0
  node_is (ToDeliver s k) n (Gapped msg has) p g = at_end n msg.stream s p g.0
  node_is (ToDeliver s k) n (Missing x number) p g = at_end n x s p g.0
  node_is (ToEnd s cause) n (Down x why) p g = at_end n x s p g.0
  node_is (ToCut m) n (Cut at) p g = g
  node_is (ToDrop m o) n (Dropped x) p g = g.0
  node_is (ToFindConflicts m o) n (Conflicts x a) p g = g.0
  node_is (ToTellState m) n (State a b c d) p g = g
  node_is _ n _ p g = absurd g

pub commands_determine : CommandsDetermine
commands_determine plan [] [] v w s = refl
commands_determine plan [] (f ∷ g) v w s = absurd s
commands_determine plan (e ∷ h) [] v w s = absurd s
commands_determine plan (e ∷ h) (f ∷ g) v w s =
    let rest : h ≡ g = commands_determine plan h g v.1 w.1 s.1 in
    let command : Command = s.0.0 in
    let k : IsLawful plan h (entry_at f.node f.entry.time f.entry.caller f.entry.event) = subst (λ (z : List NodeEntry). IsLawful plan z (entry_at f.node f.entry.time f.entry.caller f.entry.event)) (sym rest) w.0 in
    let node : e.node ≡ f.node = node_is plan h s.0.0 e.node e.entry.event v.0.placed s.0.1 ∙ sym (node_is plan h s.0.0 f.node f.entry.event k.placed s.0.2) in
    let here : IsLawful plan h (entry_at e.node f.entry.time f.entry.caller f.entry.event) = subst (λ (z : ℕ). IsLawful plan h (entry_at z f.entry.time f.entry.caller f.entry.event)) (sym node) k in
    let gives : Gives s.0.0 e.node f.entry.event = subst (λ (z : ℕ). Gives s.0.0 z f.entry.event) (sym node) s.0.2 in
    let same : (e.entry.time ≡ f.entry.time) × (e.entry.event ≡ f.entry.event) = one_event plan h v.1 e.node e.entry.time f.entry.time e.entry.caller f.entry.caller s.0.0 e.entry.event f.entry.event v.0 here s.0.1 gives in
    ap (λ (z : ℕ). entry_at z e.entry.time e.entry.caller e.entry.event ∷ h) node
    ∙ ap (λ (z : ℕ). entry_at f.node z e.entry.caller e.entry.event ∷ h) same.0
    ∙ ap (λ (z : ℕ). entry_at f.node f.entry.time z e.entry.event ∷ h) s.0.3
    ∙ ap (λ (z : Event). entry_at f.node f.entry.time f.entry.caller z ∷ h) same.1
    ∙ ap (λ (z : List NodeEntry). entry_at f.node f.entry.time f.entry.caller f.entry.event ∷ z) rest
