-- What the calls of an engine make.
use Rattle.std.specs.Prelude.{ℕ, List, ◌∷◌, ◌++◌, ◌≡◌, ◌≤◌, Bool, Result, Ok, Err, filter, length, reverse}
use Rattle.pr_inval.specs.declared.node_fault.NodeFault.{NodeFault}
use Rattle.pr_inval.specs.declared.node_fault.NodeFault.TheVariants.{Worn}
use Rattle.pr_inval.specs.declared.node_fault.NodeFault.TheVariants as faults
use Rattle.pr_flow.specs.Lies.{IsLied}
use Rattle.pr_flow.specs.declared.stop.Stop.{Stop}
use Rattle.pr_flow.specs.declared.stop.Stop.TheVariants as stops
use Rattle.pr_stamps.specs.declared.no_memory.NoMemory.{NoMemory}
use Rattle.pr_inval.specs.declared.msg.Msg.{Msg}
use Rattle.pr_inval.specs.declared.taken.Taken.{Taken}
use Rattle.pr_node.specs.declared.answers.turned.Turned.{Turned}
use Rattle.pr_node.specs.Calls.{IsCheckpointed, IsTaken, IsTurned}
use Rattle.pr_story.specs.Commands.{Command, Gives}
use Rattle.pr_story.specs.History.{NodeEntry}
use Rattle.pr_story.specs.Scripts.{JobAfterJob, Line, LineBegins, LineGives, Single, attached_after}
use Rattle.pr_sim.specs.Running.{IsRunning, Tells, below}
use Rattle.pr_story.specs.Counts.{Declared}
use Rattle.pr_sim.specs.declared.engine.Engine.{Engine}

-- P holds of each history that the engine has run, of what is declared and of which streams are attached
abbrev pub ForEachRun : Engine → (Declared → (ℕ → Bool) → List NodeEntry → Type 0) → Type 0
ForEachRun e P = (d : Declared) (attached : ℕ → Bool) (h : List NodeEntry) → IsRunning d attached h e → P d attached h

-- a node is worn only behind as many entries as the greatest time
abbrev pub IsCause : List NodeEntry → NodeFault → Type 0
IsCause h faults.NoMemory = Unit {0}
IsCause h (Worn at) = (at ≡ 4611686018427387903) × (4611686018427387903 ≤ length h)

-- ---- one entry

-- one entry was made, of which P holds, and these streams are attached then; or none, for this cause
abbrev pub MakesOne : {X : Type 0} → Declared → (ℕ → Bool) → List NodeEntry → (X → NodeEntry → Type 0) → Engine → Result X NodeFault → Type 0
MakesOne d after h P e (Ok x) = (made : NodeEntry) × IsRunning d after (made ∷ h) e × P x made
MakesOne d after h P e (Err fault) = Tells d h e × IsCause h fault

-- the entry is one that the command may give
abbrev pub GivesIt : Command → Unit {0} → NodeEntry → Type 0
GivesIt command done made = Gives command made.node made.entry.event

abbrev pub GivesOne : Command → Declared → (ℕ → Bool) → List NodeEntry → Engine → Result (Unit {0}) NodeFault → Type 0
GivesOne command d attached h e r = MakesOne d (attached_after (Single command) attached) h (GivesIt command) e r

-- ---- a stream at its source

-- the entry is that of the stream's turn, of this kind
abbrev pub IsTurnMade : ℕ → Turned → NodeEntry → Type 0
IsTurnMade s turned made = IsTurned s turned made.entry

-- it is that of its checkpoint
abbrev pub IsCheckpointMade : ℕ → Unit {0} → NodeEntry → Type 0
IsCheckpointMade s done made = IsCheckpointed s made.entry

-- it is that of a message that was taken at its destination
abbrev pub IsTakingMade : Msg → Taken → NodeEntry → Type 0
IsTakingMade msg answer made = IsTaken msg answer made.entry

-- ---- many entries

-- the history grew by entries of which P holds, the oldest first, and these streams are attached then; or by entries
-- that begin so, for this cause
abbrev pub Grows : {X : Type 0} → (X → List NodeEntry → Type 0) → (List NodeEntry → Type 0) → Declared → (ℕ → Bool) → List NodeEntry → Engine → Result X NodeFault → Type 0
Grows P Begins d after h e (Ok x) = (new : List NodeEntry) × IsRunning d after (new ++ h) e × P x (reverse new)
Grows P Begins d after h e (Err fault) = (new : List NodeEntry) × Tells d (new ++ h) e × Begins (reverse new) × IsCause (new ++ h) fault

-- the streams that are attached, in order of declaration
abbrev pub attached_of : Declared → (ℕ → Bool) → List ℕ
attached_of d attached = filter attached (below d.counts.streams)

-- it grew by what the line gives, or by a beginning of it
abbrev pub Ends : Line → Declared → (ℕ → Bool) → List NodeEntry → Engine → Result (Unit {0}) NodeFault → Type 0
Ends line d attached h e r =
    Grows (λ done es. LineGives JobAfterJob (attached_of d attached) line es) (λ es. LineBegins JobAfterJob (attached_of d attached) line es)
    d (attached_after line attached) h e r

-- the answer of a step, or of a phase: the line was given; or it has begun, and for the last message of the stream other
-- bytes came over its wire than were put
abbrev pub StepEnds : Line → Declared → (ℕ → Bool) → List NodeEntry → Engine → Result Stop NoMemory → Type 0
StepEnds line d attached h e (Ok stops.Went) = Ends line d attached h e (Ok tt)
StepEnds line d attached h e (Ok (stops.Worn at)) = Ends line d attached h e (Err (Worn at))
StepEnds line d attached h e (Ok (stops.Lied stream number sent got)) =
    (new : List NodeEntry) × Tells d (new ++ h) e × LineBegins JobAfterJob (attached_of d attached) line (reverse new) × IsLied (new ++ h) stream number sent got
StepEnds line d attached h e (Err refused) = Ends line d attached h e (Err faults.NoMemory)
