-- When an event is lawful at its place.
use Rattle.std.specs.Prelude.{ℕ, List, [], ◌∷◌, ◌≡◌, ◌≢◌, ◌⊎◌, ◌≤◌, ◌<◌, ◌+◌, ◌^◌, max, cond, Bool, true, false, IsTrue, Option, length}
use Rattle.std.specs.List.{AllZip}
use Rattle.pr_stamps.specs.Point.{Point}
use Rattle.pr_vectors.specs.Vector.{Le, join_of}
use Rattle.pr_inval.specs.declared.kind.Kind.{Kind}
use Rattle.pr_inval.specs.declared.kind.Kind.TheVariants.{Precise, Imprecise, Checkpoint, Body}
use Rattle.pr_inval.specs.declared.msg.Msg.{Msg}
use Rattle.pr_story.specs.declared.event.Event.{Event}
use Rattle.pr_story.specs.declared.event.Event.TheVariants.{Wrote, Attached, Sent, Idle, Stale, Accepted, Gapped, Missing, Down, Answered, Behind, Moved, Cut, Dropped, Conflicts, State}
use Rattle.pr_story.specs.declared.cause.Cause.{Cause}
use Rattle.pr_story.specs.declared.cause.Cause.TheVariants.{Failed, Ended, Gap}
use Rattle.pr_inval.specs.Points.{from_of, to_of}
use Rattle.pr_story.specs.declared.entry.Entry.{Entry}
use Rattle.pr_names.specs.Span.{Span}
use Rattle.pr_stamps.specs.declared.mark.Mark.{Mark}
use Rattle.pr_story.specs.History.{Plan, NodeEntry, journal, WasSent, current_clock, current_vector}
use Rattle.pr_story.specs.Told.{all_sets, IsLastPrecise, IsStart}
use Rattle.pr_story.specs.Knowledge.{IsNewestKnown, IsNewest, KnowsGone, IsGone, IsCoveredMark, IsMark, IsAnswer, IsFound, cuts_of, floor_of}
use Rattle.pr_story.specs.Ranges.{IsInRange}
use Rattle.pr_story.specs.Clients.{client_node, client_vector}
use Rattle.pr_inval.specs.Standing.{Standing}
use Rattle.pr_story.specs.Turns.{standing, IsTurn, IsSnapshot, IsAttached, is_of_stream, StaleTurn, IdleTurn, SendTurn}

abbrev pub has_from : Kind → Bool
has_from (Precise from to write) = true
has_from (Imprecise from to target) = true
has_from (Checkpoint to target floor rows) = false
has_from (Body name stamp bytes) = false

-- ---- times

-- the time of the node's last entry
abbrev pub last_time : List Entry → ℕ
last_time [] = 0
last_time (e ∷ j) = e.time

-- the time that the event hears of, where the streams stand so
abbrev pub heard_time : (ℕ → Standing) → Event → ℕ
heard_time sessions (Accepted msg at) = msg.time
heard_time sessions (Gapped msg has) = msg.time
heard_time sessions (Attached stream at) = (sessions stream).time
heard_time sessions (Sent msg) = (sessions msg.stream).time
heard_time sessions (Idle stream) = (sessions stream).time
heard_time sessions (Stale stream cut) = (sessions stream).time
heard_time sessions (Down stream cause) = (sessions stream).time
heard_time sessions (Wrote client write body after) = 0
heard_time sessions (Missing stream number) = 0
heard_time sessions (Answered client o answer at) = 0
heard_time sessions (Behind client needs has) = 0
heard_time sessions (Moved client) = 0
heard_time sessions (Cut at) = 0
heard_time sessions (Dropped o) = 0
heard_time sessions (Conflicts o found) = 0
heard_time sessions (State at cut floor precise) = 0

-- ---- what a node's own journal says

-- By the journal j of node n, which has these sets, the event may come at this time, where the streams stand so and the clients have seen these vectors.
-- The newest write to a name, whether it is gone and the marks of a name are handed in: those of the world, or those that n was told of.
module _ (Newest : List ℕ → Option Point → Type 0) (Gone : List ℕ → Point → Bool → Type 0) (Marks : List ℕ → Mark → Type 0)
    (sessions : ℕ → Standing) (seen : ℕ → List ℕ) (sets : List (List Span)) (n : ℕ) (j : List Entry) (time : ℕ) where
  abbrev pub MayCome : Event → Type 0
  MayCome (Wrote client write body after) =
      (length body ≤ 65536) × (after ≡ current_vector j) × (write.stamp.node ≡ n)
      × ((w : ℕ) → w < 32 → current_clock j w < write.stamp.clock)
      × ((w : ℕ) × (w < 32) × (write.stamp.clock ≡ current_clock j w + 1))
      × IsNewestKnown j write.name write.prev
      × (IsTrue write.gone → body ≡ [])
      × Le (seen client) (current_vector j)
  MayCome (Attached s at) = IsStart sets n j (sessions s).names at
  MayCome (Sent msg) =
      (msg.number ≡ (sessions msg.stream).number + 1) × (msg.time ≡ time)
      × (IsTurn n j (sessions msg.stream) (SendTurn msg.kind) ⊎ IsSnapshot sets n j (sessions msg.stream).names msg.kind)
  MayCome (Idle s) = IsTurn n j (sessions s) IdleTurn
  MayCome (Stale s cut) = IsTurn n j (sessions s) (StaleTurn cut)
  MayCome (Accepted msg at) = Le (from_of msg.kind) (current_vector j) × (at ≡ join_of (current_vector j) (to_of msg.kind))
  MayCome (Gapped msg has) = IsTrue (has_from msg.kind) × ¬ Le (from_of msg.kind) (current_vector j) × (has ≡ current_vector j)
  MayCome (Missing s number) = Unit {0}
  MayCome (Down s cause) = Unit {0}
  MayCome (Answered client o answer at) = IsAnswer (Newest o) (Gone o) sets n j o answer × (at ≡ current_vector j) × Le (seen client) (current_vector j)
  MayCome (Behind client needs has) = (needs ≡ seen client) × ¬ Le needs (current_vector j) × (has ≡ current_vector j)
  MayCome (Moved client) = Unit {0}
  MayCome (Cut at) = at ≡ current_vector j
  MayCome (Dropped o) = Unit {0}
  MayCome (Conflicts o found) = IsFound (Marks o) sets n j o found
  MayCome (State at cut floor precise) =
      (at ≡ current_vector j) × (cut ≡ cuts_of j) × (floor ≡ floor_of j)
      × AllZip (λ set v. IsLastPrecise n j set v) (all_sets sets) precise

-- at node n, by its journal in h: an answer is of the newest covered write of the world, and streams and clients are as h says
abbrev pub MayComeByWorld : Plan → List NodeEntry → ℕ → ℕ → Event → Type 0
MayComeByWorld plan h n time event =
    MayCome (IsNewest h (current_vector (journal h n))) (IsGone h) (IsCoveredMark h (current_vector (journal h n)) (floor_of (journal h n)))
    (standing plan h) (client_vector h) (plan.sets n) n (journal h n) time event

-- by the journal alone: an answer is of the newest known write, for streams that stand so and clients that have seen these vectors
abbrev pub MayComeByJournal : (ℕ → Standing) → (ℕ → List ℕ) → List (List Span) → ℕ → List Entry → ℕ → Event → Type 0
MayComeByJournal sessions seen sets n j time event = MayCome (IsNewestKnown j) (KnowsGone j) (IsMark j) sessions seen sets n j time event

-- ---- what the rest of the history says

-- the event is at its node; a client moves to any, and any may cut, drop, and tell of conflicts and its state
abbrev pub IsPlaced : Plan → List NodeEntry → ℕ → Event → Type 0
IsPlaced plan h n (Wrote client write body after) = n ≡ client_node plan h client
IsPlaced plan h n (Answered client o answer at) = n ≡ client_node plan h client
IsPlaced plan h n (Behind client needs has) = n ≡ client_node plan h client
IsPlaced plan h n (Attached s at) = n ≡ (plan.stream s).destination
IsPlaced plan h n (Accepted msg at) = n ≡ (plan.stream msg.stream).destination
IsPlaced plan h n (Gapped msg has) = n ≡ (plan.stream msg.stream).destination
IsPlaced plan h n (Missing s number) = n ≡ (plan.stream s).destination
IsPlaced plan h n (Down s cause) = n ≡ (plan.stream s).destination
IsPlaced plan h n (Sent msg) = n ≡ (plan.stream msg.stream).source
IsPlaced plan h n (Idle s) = n ≡ (plan.stream s).source
IsPlaced plan h n (Stale s cut) = n ≡ (plan.stream s).source
IsPlaced plan h n (Moved client) = Unit {0}
IsPlaced plan h n (Cut at) = Unit {0}
IsPlaced plan h n (Dropped o) = Unit {0}
IsPlaced plan h n (Conflicts o found) = Unit {0}
IsPlaced plan h n (State at cut floor precise) = Unit {0}

-- whether the last of the journal's events of the stream is a gap
abbrev pub is_gap : Event → Bool
is_gap (Gapped msg has) = true
is_gap _ = false

abbrev pub is_after_gap : List Entry → ℕ → Bool
is_after_gap [] s = false
is_after_gap (e ∷ j) s = cond (is_of_stream e.event s) (is_gap e.event) (is_after_gap j s)

abbrev pub DownAfter : Cause → Bool → Type 0
DownAfter Gap after = IsTrue after
DownAfter Failed after = Unit {0}
DownAfter Ended after = Unit {0}

-- what the event at node n needs to have come before it
abbrev pub HasCause : List NodeEntry → ℕ → Event → Type 0
HasCause h n (Sent msg) = IsAttached h msg.stream
HasCause h n (Idle s) = IsAttached h s
HasCause h n (Stale s cut) = IsAttached h s
HasCause h n (Accepted msg at) = WasSent h msg
HasCause h n (Gapped msg has) = WasSent h msg
HasCause h n (Missing s number) = (msg : Msg) → WasSent h msg → msg.stream ≡ s → msg.number ≢ number
HasCause h n (Down s cause) = IsAttached h s × DownAfter cause (is_after_gap (journal h n) s)
HasCause h n (Wrote client write body after) = Unit {0}
HasCause h n (Attached s at) = Unit {0}
HasCause h n (Answered client o answer at) = Unit {0}
HasCause h n (Behind client needs has) = Unit {0}
HasCause h n (Moved client) = Unit {0}
HasCause h n (Cut at) = Unit {0}
HasCause h n (Dropped o) = Unit {0}
HasCause h n (Conflicts o found) = Unit {0}
HasCause h n (State at cut floor precise) = Unit {0}

-- ---- valid histories

-- the entry is lawful after h
pub record IsLawful (plan : Plan) (h : List NodeEntry) (e : NodeEntry) : Type 0 where
  pub node : e.node < 32
  pub in_range : IsInRange e.entry.event
  pub in_range_time : e.entry.time < 2 ^ 64
  pub in_range_caller : e.entry.caller < 2 ^ 32
  pub placed : IsPlaced plan h e.node e.entry.event
  pub cause : HasCause h e.node e.entry.event
  pub may_come : MayComeByWorld plan h e.node e.entry.time e.entry.event
  pub time : e.entry.time ≡ max (last_time (journal h e.node)) (heard_time (standing plan h) e.entry.event) + 1

-- the entry is lawful after the node's own journal, for streams that stand so and clients that have seen these vectors
pub record IsOwnLawful (sessions : ℕ → Standing) (seen : ℕ → List ℕ) (sets : List (List Span)) (n : ℕ) (j : List Entry) (e : Entry) : Type 0 where
  pub in_range : IsInRange e.event
  pub in_range_time : e.time < 2 ^ 64
  pub in_range_caller : e.caller < 2 ^ 32
  pub may_come : MayComeByJournal sessions seen sets n j e.time e.event
  pub time : e.time ≡ max (last_time j) (heard_time sessions e.event) + 1

abbrev pub Valid : Plan → List NodeEntry → Type 0
Valid plan [] = Unit {0}
Valid plan (e ∷ h) = IsLawful plan h e × Valid plan h
