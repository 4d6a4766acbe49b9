-- How the answer to an ask ends.
use Rattle.std.specs.Prelude.{◌≡◌, ◌≤◌, ◌+◌, ℕ, Bool, true, false, List, [], Option, Some, None, Result, Ok, Err}
use Rattle.pr_inval.specs.declared.msg.Msg.{Msg}
use Rattle.pr_inval.specs.declared.node_fault.NodeFault.{NodeFault}
use Rattle.pr_inval.specs.declared.node_fault.NodeFault.TheVariants as node_faults
use Rattle.pr_inval.specs.Messages.{IsMessage}
use Rattle.pr_inval.specs.Standing.{SessionMeaning}
use Rattle.pr_node.specs.Stored.{NodeMeaning}
use Rattle.pr_story.specs.declared.entry.Entry.{Entry}
use Rattle.pr_story.specs.Lawful.{last_time}
use Rattle.pr_wire.specs.declared.format.Format.TheVariants.{Two}
use Rattle.pr_wire.specs.Spelling.{spelling}
use Rattle.pr_serve.specs.declared.ask.Ask.{Ask}
use Rattle.pr_serve.specs.declared.serve_fault.ServeFault.{ServeFault}
use Rattle.pr_serve.specs.declared.serve_fault.ServeFault.TheVariants as faults
use Rattle.pr_serve.specs.Output.{Answering, IsOutput, IsWhole, Nothing, Run, Turn, begun, frames}
use Rattle.pr_serve.specs.Sinks.{Sink, Wrote, WroteSome}

-- node and session begin an answer, or a part of one, with so many turns left
abbrev pub place : NodeMeaning → SessionMeaning → ℕ → Answering
place x s left = record { journal = x.journal; standing = s.standing; left = left; next = Turn }

-- from x to y the node made these entries of an answer, which has come from the one place to the other
pub record HasRun (x y : NodeMeaning) (stream : ℕ) (from : Answering) (es : List Entry) (to : Answering) : Type 0 where
  pub run : Run x.sets x.id stream from es to
  pub journal : y.journal ≡ to.journal
  pub same_id : y.id ≡ x.id
  pub same_sets : y.sets ≡ x.sets

-- the session stands as the answer has come to
pub record IsSessionAt (a b : SessionMeaning) (to : Answering) : Type 0 where
  pub standing : b.standing ≡ to.standing
  pub stream : b.stream ≡ a.stream
  pub attached : b.attached ≡ true
  pub timely : to.standing.time ≤ last_time to.journal

-- the fault of an answer that has come to this place: the node's time is worn; the sink failed; or there was no memory.
-- Of the frames so far all were taken, or a beginning
abbrev pub EndsBy : Sink → Sink → List ℕ → Answering → ServeFault → Type 0
EndsBy a b text to (faults.Worn at) =
    (at ≡ 4611686018427387903) × ¬ IsWhole to × (last_time to.journal ≡ 4611686018427387903) × Wrote a b text
EndsBy a b text to faults.WriteFault = (count : ℕ) × WroteSome a b text count
EndsBy a b text to faults.NoMemory = Wrote a b text
EndsBy a b text to _ = ⊥

-- a part of an answer, and then a fault
pub record HasBroken (x y : NodeMeaning) (stream : ℕ) (from : Answering) (a b : Sink) (fault : ServeFault) : Type 0 where
  pub entries : List Entry
  pub to : Answering
  pub run : HasRun x y stream from entries to
  pub ends : EndsBy a b (frames entries) to fault

-- a part of an answer whose frames were written
pub record HasWritten (x y : NodeMeaning) (stream : ℕ) (from : Answering) (a b : Sink) (to : Answering) : Type 0 where
  pub entries : List Entry
  pub run : HasRun x y stream from entries to
  pub wrote : Wrote a b (frames entries)

-- the node refused to go on
abbrev pub IsStoppedBy : Answering → NodeFault → Type 0
IsStoppedBy to (node_faults.Worn at) = (at ≡ 4611686018427387903) × (last_time to.journal ≡ 4611686018427387903)
IsStoppedBy to node_faults.NoMemory = Unit {0}

-- what comes next of an answer, before it is written
abbrev pub IsMade : NodeMeaning → NodeMeaning → SessionMeaning → SessionMeaning → ℕ → Result (Option Msg) NodeFault → Type 0
IsMade x y s t left (Ok (Some m)) =
    IsMessage m
    × ((es : List Entry) × (to : Answering) × HasRun x y s.stream (place x s left) es to × IsSessionAt s t to
    × (frames es ≡ spelling Two m) × (to.next ≡ Turn) × (left ≡ to.left + 1))
IsMade x y s t left (Ok None) =
    (es : List Entry) × (to : Answering) × HasRun x y s.stream (place x s left) es to × IsSessionAt s t to
    × (frames es ≡ []) × (to.next ≡ Nothing)
IsMade x y s t left (Err fault) =
    (es : List Entry) × (to : Answering) × HasRun x y s.stream (place x s left) es to × (frames es ≡ [])
    × ¬ IsWhole to × IsStoppedBy to fault

-- what comes of a turn: there may be more, or the answer is at its end
abbrev pub IsTurned : NodeMeaning → NodeMeaning → SessionMeaning → SessionMeaning → Sink → Sink → ℕ → Result Bool ServeFault → Type 0
IsTurned x y s t a b left (Ok true) =
    (to : Answering) × HasWritten x y s.stream (place x s left) a b to × IsSessionAt s t to × (to.next ≡ Turn) × (left ≡ to.left + 1)
IsTurned x y s t a b left (Ok false) =
    (to : Answering) × HasWritten x y s.stream (place x s left) a b to × (to.next ≡ Nothing)
IsTurned x y s t a b left (Err fault) = HasBroken x y s.stream (place x s left) a b fault

-- what comes of all turns
abbrev pub IsTurnedOut : NodeMeaning → NodeMeaning → SessionMeaning → Sink → Sink → ℕ → Result (Unit {0}) ServeFault → Type 0
IsTurnedOut x y s a b left (Ok done) = (to : Answering) × HasWritten x y s.stream (place x s left) a b to × IsWhole to
IsTurnedOut x y s a b left (Err fault) = HasBroken x y s.stream (place x s left) a b fault

-- what comes of answering an ask
pub record HasAnswered (q : Ask) (x y : NodeMeaning) (a b : Sink) : Type 0 where
  pub text : List ℕ
  pub output : IsOutput x.sets x.id x.journal q text y.journal
  pub wrote : Wrote a b text
  pub same_id : y.id ≡ x.id
  pub same_sets : y.sets ≡ x.sets

abbrev pub IsAnswered : Ask → NodeMeaning → NodeMeaning → Sink → Sink → Result (Unit {0}) ServeFault → Type 0
IsAnswered q x y a b (Ok done) = HasAnswered q x y a b
IsAnswered q x y a b (Err fault) = HasBroken x y q.stream (begun x.journal q) a b fault
