-- Streams, and what the source of a stream sends next.
use Rattle.std.specs.Prelude.{ℕ, List, [], ◌∷◌, ◌≡◌, ◌⊎◌, ◌≤◌, ◌<◌, ◌+◌, ◌&&◌, ◌||◌, ◌↔◌, max, cond, nat_eq, Bool, false, IsTrue, Some, Contains, AllPairs, length}
use Rattle.pr_stamps.specs.Point.{Point, Before, is_this}
use Rattle.pr_stamps.specs.declared.mark.Mark.{Mark}
use Rattle.pr_vectors.specs.Vector.{Covers, Le, join_of, cut_of, Between, zero_vector, below_of}
use Rattle.pr_sets.specs.Spans.{has, IsSetOf, IsAllBut}
use Rattle.pr_names.specs.Order.{name_lt}
use Rattle.pr_names.specs.Name.{IsName}
use Rattle.pr_names.specs.Span.{Span}
use Rattle.pr_inval.specs.declared.kind.Kind.{Kind}
use Rattle.pr_inval.specs.declared.kind.Kind.TheVariants.{Precise, Imprecise, Checkpoint, Body}
use Rattle.pr_inval.specs.declared.row.Row.{Row}
use Rattle.pr_inval.specs.declared.step.Step.{Step}
use Rattle.pr_inval.specs.declared.step.Step.TheVariants as steps
use Rattle.pr_inval.specs.declared.write_rec.WriteRec.{WriteRec}
use Rattle.pr_story.specs.declared.event.Event.{Event}
use Rattle.pr_story.specs.declared.event.Event.TheVariants.{Attached, Sent, Idle, Stale, Accepted, Gapped, Missing, Down}
use Rattle.pr_inval.specs.Points.{to_of}
use Rattle.pr_inval.specs.Standing.{Standing}
use Rattle.pr_story.specs.declared.entry.Entry.{Entry}
use Rattle.pr_story.specs.History.{Plan, NodeEntry, SomeEvent, entries, current_vector}
use Rattle.pr_story.specs.Told.{IsPrecise, IsDarkBetween}
use Rattle.pr_sets.specs.Sets.{set_of}
use Rattle.pr_story.specs.Knowledge.{Knows, WasNamed, IsNewestKnown, KnowsGone, held_body, cuts_of, floor_of, IsMark}

-- ---- where a stream stands

-- the event of a stream's turn
abbrev pub event_of : ℕ → Step → Event
event_of stream (steps.Sent msg) = Sent msg
event_of stream steps.Idle = Idle stream
event_of stream (steps.Stale cut) = Stale stream cut

-- whether the event is one of the stream's
abbrev pub is_of_stream : Event → ℕ → Bool
is_of_stream (Attached stream at) s = nat_eq stream s
is_of_stream (Sent msg) s = nat_eq msg.stream s
is_of_stream (Idle stream) s = nat_eq stream s
is_of_stream (Stale stream cut) s = nat_eq stream s
is_of_stream (Accepted msg at) s = nat_eq msg.stream s
is_of_stream (Gapped msg has) s = nat_eq msg.stream s
is_of_stream (Missing stream number) s = nat_eq stream s
is_of_stream (Down stream cause) s = nat_eq stream s
is_of_stream _ s = false

-- whether the call that makes the event is given the stream's session
abbrev pub is_with_session : Event → ℕ → Bool
is_with_session (Attached stream at) s = nat_eq stream s
is_with_session (Sent msg) s = nat_eq msg.stream s
is_with_session (Idle stream) s = nat_eq stream s
is_with_session (Stale stream cut) s = nat_eq stream s
is_with_session (Down stream cause) s = nat_eq stream s
is_with_session _ s = false

abbrev pub Attaches : Event → ℕ → Type 0
Attaches (Attached stream at) s = stream ≡ s
Attaches _ s = ⊥

-- the stream was attached at some time
abbrev pub IsAttached : List NodeEntry → ℕ → Type 0
IsAttached h s = SomeEvent (λ event. Attaches event s) (entries h)

abbrev pub count_after : Event → ℕ → ℕ → ℕ
count_after (Sent msg) s k = cond (nat_eq msg.stream s) (k + 1) k
count_after _ s k = k

-- how many messages the stream sent
abbrev pub sent_count : List NodeEntry → ℕ → ℕ
sent_count [] s = 0
sent_count (e ∷ h) s = count_after e.entry.event s (sent_count h s)

abbrev pub position_after : Event → ℕ → List ℕ → List ℕ
position_after (Attached stream at) s p = cond (nat_eq stream s) at p
position_after (Sent msg) s p = cond (nat_eq msg.stream s) (join_of p (to_of msg.kind)) p
position_after _ s p = p

-- where the last attach started, joined with the ends of what was sent since
abbrev pub position : List NodeEntry → ℕ → List ℕ
position [] s = zero_vector
position (e ∷ h) s = position_after e.entry.event s (position h s)

abbrev pub is_body : Kind → List ℕ → Point → Bool
is_body (Body name stamp bytes) o t = is_this name stamp o t
is_body _ o t = false

abbrev pub sent_after : Event → ℕ → List ℕ → Point → Bool → Bool
sent_after (Attached stream at) s o t before = cond (nat_eq stream s) false before
sent_after (Sent msg) s o t before = (nat_eq msg.stream s && is_body msg.kind o t) || before
sent_after _ s o t before = before

-- whether the stream sent this body since its last attach
abbrev pub has_sent : List NodeEntry → ℕ → List ℕ → Point → Bool
has_sent [] s o t = false
has_sent (e ∷ h) s o t = sent_after e.entry.event s o t (has_sent h s o t)

-- whether the event counts for the times of the stream
abbrev pub is_timed : Event → ℕ → Bool
is_timed (Missing stream number) s = false
is_timed event s = is_of_stream event s

-- the greatest time of the stream's events
abbrev pub stream_time : List NodeEntry → ℕ → ℕ
stream_time [] s = 0
stream_time (e ∷ h) s = max (stream_time h s) (cond (is_timed e.entry.event s) e.entry.time 0)

-- how a session of the stream stands by the history
abbrev pub standing : Plan → List NodeEntry → ℕ → Standing
standing plan h s = record {
  names = (plan.stream s).names;
  bodies = (plan.stream s).bodies;
  position = position h s;
  number = sent_count h s;
  time = stream_time h s;
  sent = has_sent h s;
}

-- ---- what there is to send, by the journal j of the source n

-- a known write to one of the names, past the position
abbrev pub IsWriteToSend : List Entry → List Span → List ℕ → WriteRec → Type 0
IsWriteToSend j names p x = Knows j x × IsTrue (has names x.name) × ¬ Covers p x.stamp

abbrev pub IsNextWrite : List Entry → List Span → List ℕ → WriteRec → Type 0
IsNextWrite j names p x =
    IsWriteToSend j names p x × ((y : WriteRec) → IsWriteToSend j names p y → ¬ Before y.stamp x.stamp)

-- the body of the newest known write to one of the names, which is not gone and whose body was not sent
abbrev pub IsBodyToSend : List Entry → Standing → List ℕ → Point → List ℕ → Type 0
IsBodyToSend j session o t bytes =
    IsTrue (has session.names o) × IsNewestKnown j o (Some t) × KnowsGone j o t false × (held_body j o t ≡ Some bytes) × (session.sent o t ≡ false)

abbrev pub IsNextBody : List Entry → Standing → List ℕ → Point → List ℕ → Type 0
IsNextBody j session o t bytes =
    IsBodyToSend j session o t bytes
    × ((name : List ℕ) (stamp : Point) (body : List ℕ) → IsBodyToSend j session name stamp body → name_lt name o ≡ false)

-- a known write to the name, which is none of the stream's, lies between the vectors
abbrev pub IsOmitted : List Entry → List Span → List ℕ → List ℕ → List ℕ → Type 0
IsOmitted j names v w o = (has names o ≡ false) × ((x : WriteRec) × Knows j x × (x.name ≡ o) × Between v w x.stamp)

-- of the name there may be a write between the vectors that a precise message would not tell
abbrev pub IsWithheld : ℕ → List Entry → List Span → List ℕ → List ℕ → List ℕ → Type 0
IsWithheld n j names v w o = IsDarkBetween n j v w o ⊎ IsOmitted j names v w o

-- the target has just the withheld names where at most 16 intervals hold them, and else those that are not the stream's or dark
abbrev pub IsTarget : ℕ → List Entry → List Span → List ℕ → List ℕ → List Span → Type 0
IsTarget n j names v w target =
    (IsSetOf target (IsWithheld n j names v w) × (length target ≤ 16))
    ⊎ (((fine : List Span) → IsSetOf fine (IsWithheld n j names v w) → 16 < length fine)
    × IsSetOf target (λ o. (has names o ≡ false) ⊎ IsDarkBetween n j v w o))

-- ---- turns

pub data Turn : Type 0 where
  StaleTurn : List ℕ → Turn
  IdleTurn : Turn
  SendTurn : Kind → Turn

-- the position holds all that the source's cut covers
abbrev pub HoldsCut : List Entry → Standing → Type 0
HoldsCut j session = Le (cuts_of j) session.position

-- it holds all that the source's vector covers
abbrev pub HoldsVector : List Entry → Standing → Type 0
HoldsVector j session = Le (current_vector j) session.position

-- no write is to be sent, and the message ends at the vector
abbrev pub EndsAtVector : List Entry → Standing → List ℕ → Type 0
EndsAtVector j session to =
    ((x : WriteRec) → ¬ IsWriteToSend j session.names session.position x) × (to ≡ join_of session.position (current_vector j))

-- it ends just before the next write, and a name is withheld on the way there
abbrev pub EndsBeforeNext : ℕ → List Entry → Standing → List ℕ → Type 0
EndsBeforeNext n j session to =
    (t : WriteRec) × IsNextWrite j session.names session.position t × (to ≡ join_of session.position (below_of (current_vector j) t.stamp))
    × ((o : List ℕ) × IsName o × IsWithheld n j session.names session.position to o)

-- no name is withheld on the way to just before this stamp
abbrev pub WithholdsNone : ℕ → List Entry → Standing → Point → Type 0
WithholdsNone n j session s =
    (o : List ℕ) → IsName o → ¬ IsWithheld n j session.names session.position (join_of session.position (below_of (current_vector j) s)) o

-- the turn at node n of a stream that stands so
abbrev pub IsTurn : ℕ → List Entry → Standing → Turn → Type 0
IsTurn n j session (StaleTurn cut) = (cut ≡ cuts_of j) × ¬ HoldsCut j session
IsTurn n j session IdleTurn =
    HoldsCut j session × HoldsVector j session
    × (IsTrue session.bodies → (o : List ℕ) (t : Point) (bytes : List ℕ) → ¬ IsBodyToSend j session o t bytes)
IsTurn n j session (SendTurn (Body o t bytes)) =
    HoldsCut j session × HoldsVector j session × IsTrue session.bodies × IsNextBody j session o t bytes
IsTurn n j session (SendTurn (Imprecise from to target)) =
    HoldsCut j session × ¬ HoldsVector j session × (from ≡ session.position)
    × IsTarget n j session.names session.position to target × (EndsAtVector j session to ⊎ EndsBeforeNext n j session to)
IsTurn n j session (SendTurn (Precise from to write)) =
    HoldsCut j session × ¬ HoldsVector j session × (from ≡ session.position)
    × IsNextWrite j session.names session.position write × (to ≡ join_of session.position (cut_of (current_vector j) write.stamp))
    × WithholdsNone n j session write.stamp
IsTurn n j session (SendTurn (Checkpoint to target floor rows)) = ⊥

-- ---- checkpoints

-- the row is what the node knows of its name
pub record IsSnapshotRow (j : List Entry) (target : List Span) (row : Row) : Type 0 where
  pub outside : has target row.name ≡ false
  pub newest : IsNewestKnown j row.name (Some row.newest)
  pub gone : KnowsGone j row.name row.newest row.gone
  pub marks : (mark : Mark) → Contains row.marks mark ↔ IsMark j row.name mark
  pub marks_rise : AllPairs (λ (a : Mark) (b : Mark). Before a.stamp b.stamp) row.marks

-- the checkpoint of node n, which has these sets, for these names
abbrev pub IsSnapshot : List (List Span) → ℕ → List Entry → List Span → Kind → Type 0
IsSnapshot sets n j names (Checkpoint to target floor rows) =
    (to ≡ current_vector j) × (floor ≡ floor_of j)
    × IsAllBut target (λ o. IsTrue (has names o) × IsPrecise n j (set_of sets o))
    × ((row : Row) → Contains rows row → IsSnapshotRow j target row)
    × ((o : List ℕ) (t : Point) → IsName o → has target o ≡ false → WasNamed j o t → (row : Row) × Contains rows row × (row.name ≡ o))
    × AllPairs (λ (a : Row) (b : Row). IsTrue (name_lt a.name b.name)) rows
IsSnapshot sets n j names _ = ⊥
