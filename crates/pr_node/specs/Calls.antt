-- What the calls of a node do: each makes one lawful entry, or has its fault.
use Rattle.std.specs.Prelude.{ℕ, List, Bool, true, false, ◌∷◌, ◌≡◌, ◌≤◌, ◌<◌, ◌⊎◌, max}
use Rattle.pr_vectors.specs.Vector.{Le}
use Rattle.pr_inval.specs.declared.msg.Msg.{Msg}
use Rattle.pr_inval.specs.declared.node_fault.NodeFault.{NodeFault}
use Rattle.pr_inval.specs.declared.node_fault.NodeFault.TheVariants.{NoMemory, Worn}
use Rattle.pr_inval.specs.declared.step.Step.{Step}
use Rattle.pr_inval.specs.declared.step.Step.TheVariants as step
use Rattle.pr_inval.specs.declared.taken.Taken.{Taken}
use Rattle.pr_inval.specs.declared.taken.Taken.TheVariants as taken
use Rattle.pr_inval.specs.declared.write_rec.WriteRec.{WriteRec}
use Rattle.pr_inval.specs.Points.{from_of}
use Rattle.pr_inval.specs.Messages.{IsMessage}
use Rattle.pr_inval.specs.Standing.{Standing}
use Rattle.pr_story.specs.declared.cause.Cause.{Cause}
use Rattle.pr_story.specs.declared.entry.Entry.{Entry}
use Rattle.pr_story.specs.declared.event.Event.{Event}
use Rattle.pr_story.specs.declared.event.Event.TheVariants.{Wrote, Attached, Sent, Idle, Stale, Accepted, Gapped, Missing, Down, Answered, Behind, Moved, State}
use Rattle.pr_story.specs.Commands.{IsCheckpoint, IsNoCheckpoint}
use Rattle.pr_story.specs.History.{current_clock, current_vector}
use Rattle.pr_story.specs.Lawful.{IsOwnLawful, last_time}
use Rattle.pr_node.specs.declared.answers.done.Done.{Done}
use Rattle.pr_node.specs.declared.answers.done.Done.TheVariants as done
use Rattle.pr_node.specs.declared.answers.seen.Seen.{Seen}
use Rattle.pr_node.specs.declared.answers.seen.Seen.TheVariants as seen
use Rattle.pr_node.specs.declared.answers.turned.Turned.{Turned}
use Rattle.pr_node.specs.declared.answers.turned.Turned.TheVariants as turned
use Rattle.pr_node.specs.Stored.{NodeMeaning}

-- ---- the entry

-- from a to b the node's journal has one entry more, and P holds of it: it is lawful after the journal of a, for streams
-- that stand so and clients that have seen these vectors
pub record Adds (a b : NodeMeaning) (sessions : ℕ → Standing) (needs : ℕ → List ℕ) (caller : ℕ) (P : Entry → Type 0) : Type 0 where
  pub entry : Entry
  pub follows : b.journal ≡ entry ∷ a.journal
  pub lawful : IsOwnLawful sessions needs a.sets a.id a.journal entry
  pub by : entry.caller ≡ caller
  pub early : entry.time ≤ 4611686018427387903
  pub is : P entry
  pub same_id : b.id ≡ a.id
  pub same_sets : b.sets ≡ a.sets
  pub works : b.spent ≡ false

-- for any streams, and clients that have seen this vector
abbrev pub AddsOfClient : NodeMeaning → NodeMeaning → List ℕ → ℕ → (Entry → Type 0) → Type 0
AddsOfClient a b needs caller P = (sessions : ℕ → Standing) → Adds a b sessions (λ _. needs) caller P

-- for any clients, and streams that stand so
abbrev pub AddsOfStream : NodeMeaning → NodeMeaning → Standing → ℕ → (Entry → Type 0) → Type 0
AddsOfStream a b standing caller P = (needs : ℕ → List ℕ) → Adds a b (λ _. standing) needs caller P

-- for any streams and clients
abbrev pub AddsAlone : NodeMeaning → NodeMeaning → ℕ → (Entry → Type 0) → Type 0
AddsAlone a b caller P = (sessions : ℕ → Standing) (needs : ℕ → List ℕ) → Adds a b sessions needs caller P

-- ---- faults

-- the journal and the sets stay, and the node is spent
pub record IsSpentNow (a b : NodeMeaning) : Type 0 where
  pub same_journal : b.journal ≡ a.journal
  pub same_id : b.id ≡ a.id
  pub same_sets : b.sets ≡ a.sets
  pub spent : b.spent ≡ true

-- the fault of a call that is worn for this cause
abbrev pub IsFault : NodeMeaning → NodeMeaning → Type 0 → NodeFault → Type 0
IsFault a b Cause NoMemory = IsSpentNow a b
IsFault a b Cause (Worn at) = (at ≡ 4611686018427387903) × (b ≡ a) × Cause

-- the greatest time was reached, by the node or in what it hears
abbrev pub IsTimeWorn : NodeMeaning → ℕ → Type 0
IsTimeWorn a heard = max (last_time a.journal) heard ≡ 4611686018427387903

-- the node's vector has the greatest clock
abbrev pub IsClockWorn : NodeMeaning → Type 0
IsClockWorn a = (w : ℕ) × (w < 32) × (current_clock a.journal w ≡ 4611686018427387903)

-- a write is worn where the time is, or else, where the node has what the client has seen, the clock
abbrev pub IsWriteWorn : NodeMeaning → List ℕ → Type 0
IsWriteWorn a needs = IsTimeWorn a 0 ⊎ (Le needs (current_vector a.journal) × IsClockWorn a)

-- a call that does not begin: for want of memory, or since the time is worn, where the node stays as it was
abbrev pub IsHalted : ℕ → ℕ → Bool → NodeFault → Type 0
IsHalted last heard spent NoMemory = spent ≡ true
IsHalted last heard spent (Worn at) = (at ≡ 4611686018427387903) × (max last heard ≡ 4611686018427387903) × (spent ≡ false)

-- ---- what the entry says

-- a client's write or delete, with its stamp, or that the node trails the client
abbrev pub IsDone : ℕ → List ℕ → List ℕ → Bool → Done → Entry → Type 0
IsDone client name bytes gone (done.Stamp stamp) e =
    (write : WriteRec) × (after : List ℕ) × (e.event ≡ Wrote client write bytes after)
    × (write.name ≡ name) × (write.stamp ≡ stamp) × (write.gone ≡ gone)
IsDone client name bytes gone (done.Behind has) e = (needs : List ℕ) × (e.event ≡ Behind client needs has)

-- a client's read, with its reply, or that the node trails the client
abbrev pub IsSeen : ℕ → List ℕ → Seen → Entry → Type 0
IsSeen client name (seen.Reply reply) e = (at : List ℕ) × (e.event ≡ Answered client name reply at)
IsSeen client name (seen.Behind has) e = (needs : List ℕ) × (e.event ≡ Behind client needs has)

-- what a client has seen after a write, or a read, at a node that then has this vector
abbrev pub seen_after_done : Done → List ℕ → List ℕ → List ℕ
seen_after_done (done.Stamp stamp) before now = now
seen_after_done (done.Behind has) before now = before

abbrev pub seen_after_read : Seen → List ℕ → List ℕ → List ℕ
seen_after_read (seen.Reply reply) before now = now
seen_after_read (seen.Behind has) before now = before

-- a turn of the stream
abbrev pub IsStep : ℕ → Step → Entry → Type 0
IsStep stream (step.Sent msg) e = (e.event ≡ Sent msg) × (msg.stream ≡ stream) × IsNoCheckpoint msg.kind
IsStep stream step.Idle e = e.event ≡ Idle stream
IsStep stream (step.Stale cut) e = e.event ≡ Stale stream cut

-- a turn of this kind, whose message, if it sends one, is one of the grammar
abbrev pub IsTurned : ℕ → Turned → Entry → Type 0
IsTurned stream turned.Sent e = (msg : Msg) × IsStep stream (step.Sent msg) e × IsMessage msg
IsTurned stream turned.Idle e = IsStep stream step.Idle e
IsTurned stream turned.Stale e = (cut : List ℕ) × IsStep stream (step.Stale cut) e

-- the stream's checkpoint
abbrev pub IsCheckpointSent : ℕ → Msg → Entry → Type 0
IsCheckpointSent stream msg e = (e.event ≡ Sent msg) × (msg.stream ≡ stream) × IsCheckpoint msg.kind

-- the stream's checkpoint, a message of the grammar
abbrev pub IsCheckpointed : ℕ → Entry → Type 0
IsCheckpointed stream e = (msg : Msg) × IsCheckpointSent stream msg e × IsMessage msg

-- the message was taken, or has a gap
abbrev pub IsTaken : Msg → Taken → Entry → Type 0
IsTaken msg (taken.Accepted time) e = ((at : List ℕ) × (e.event ≡ Accepted msg at)) × (e.time ≡ time)
IsTaken msg (taken.Gap needs has time) e = (e.event ≡ Gapped msg has) × (needs ≡ from_of msg.kind) × (e.time ≡ time)

abbrev pub IsStateEvent : Event → Type 0
IsStateEvent (State at cut floor precise) = Unit {0}
IsStateEvent _ = ⊥

-- ---- streams at their destination

abbrev pub IsAttachedAt : ℕ → List ℕ → Entry → Type 0
IsAttachedAt stream at e = e.event ≡ Attached stream at

abbrev pub IsMissed : ℕ → ℕ → Entry → Type 0
IsMissed stream number e = e.event ≡ Missing stream number

abbrev pub IsDownFor : ℕ → Cause → Entry → Type 0
IsDownFor stream cause e = e.event ≡ Down stream cause

abbrev pub IsMoveOf : ℕ → Entry → Type 0
IsMoveOf client e = e.event ≡ Moved client
