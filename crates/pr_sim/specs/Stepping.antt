-- What the commands of a script ask of an engine, and when a script's good commands can be run.
use Rattle.std.specs.Prelude.{ℕ, List, ◌≡◌, ◌≤◌, ◌<◌, ◌+◌, Bool, Result, Ok, Err, length}
use Rattle.pr_inval.specs.declared.node_fault.NodeFault.{NodeFault}
use Rattle.pr_inval.specs.declared.node_fault.NodeFault.TheVariants as faults
use Rattle.pr_flow.specs.declared.stop.Stop.{Stop}
use Rattle.pr_flow.specs.declared.stop.Stop.TheVariants as stops
use Rattle.pr_stamps.specs.declared.no_memory.NoMemory.{NoMemory}
use Rattle.pr_script.specs.declared.command.Command.{Command}
use Rattle.pr_script.specs.declared.command.Command.TheVariants as commands
use Rattle.pr_script.specs.declared.decl.Decl.{Decl}
use Rattle.pr_script.specs.Good.{IsGoodCommand}
use Rattle.pr_script.specs.Known as script
use Rattle.pr_script.specs.Known.{has_number}
use Rattle.pr_story.specs.History.{NodeEntry}
use Rattle.pr_story.specs.Scripts.{attached_after}
use Rattle.pr_text.specs.Steps.{line_of}
use Rattle.pr_sim.specs.Making.{declared_of}
use Rattle.pr_sim.specs.Running.{HasAttached, IsRunning}
use Rattle.pr_sim.specs.declared.engine.Engine.{Engine}

-- ---- what can be run

-- the engine has a stream of this number, and it is attached
abbrev pub CanSend : Engine → ℕ → Type 0
CanSend e stream = (stream < length e.sessions.items) × HasAttached e stream

-- what the command names is there, and what it sends on is attached; a body has at most the bytes of a message's
abbrev pub CanRun : Engine → Command → Type 0
CanRun e (commands.Attach stream) = stream < length e.sessions.items
CanRun e (commands.Detach stream) = stream < length e.sessions.items
CanRun e (commands.Send stream) = CanSend e stream
CanRun e (commands.Checkpoint stream) = CanSend e stream
CanRun e (commands.Deliver stream number) = stream < length e.sessions.items
CanRun e (commands.Flow stream turns) = CanSend e stream
CanRun e (commands.Write client name body) = (client < length e.homes.items) × (length body ≤ 65536)
CanRun e (commands.Delete client name) = client < length e.homes.items
CanRun e (commands.Read client name) = client < length e.homes.items
CanRun e (commands.Move client node) = (client < length e.homes.items) × (node < length e.nodes.items)
CanRun e (commands.Cut node) = node < length e.nodes.items
CanRun e (commands.State node) = node < length e.nodes.items
CanRun e (commands.Drop node name) = node < length e.nodes.items
CanRun e (commands.Conflicts node name) = node < length e.nodes.items
CanRun e c = Unit {0}

-- the command gives at most one entry
abbrev pub IsShort : Command → Type 0
IsShort (commands.Flow stream turns) = ⊥
IsShort commands.Settle = ⊥
IsShort c = Unit {0}

-- ---- how a step ends

-- want of memory ends a run, and a worn node stops it
abbrev pub IsStopOf : Result Stop NodeFault → Result Stop NoMemory → Type 0
IsStopOf (Ok stop) r = r ≡ Ok stop
IsStopOf (Err (faults.Worn at)) r = r ≡ Ok (stops.Worn at)
IsStopOf (Err faults.NoMemory) r = r ≡ Err (record {})

-- what went its way ended as this says
abbrev pub went_of : Result (Unit {0}) NodeFault → Result Stop NodeFault
went_of (Ok done) = Ok stops.Went
went_of (Err fault) = Err fault

-- ---- wires

-- at most so many connections were asked for and none is out for them
module _ {W : Type 0} (faults made out : W → ℕ) (sound : W → ℕ → Bool) where
  pub record StepsByWires (most : ℕ) (before now : W) : Type 0 where
    pub few_made : made now ≤ made before + most
    pub none_out : out now ≡ out before
    pub faults_rise : faults before ≤ faults now
    pub same_sound : sound now ≡ sound before

-- ---- the commands of a script

-- the same streams are attached, as a list of numbers and by number
abbrev pub AreAttached : List ℕ → (ℕ → Bool) → Type 0
AreAttached numbers attached = (s : ℕ) → attached s ≡ has_number numbers s

-- what a good command asks for is there, where the engine runs what is declared and the same streams are attached
abbrev pub GoodCanRun : Type 0
GoodCanRun =
    (ds : List Decl) (numbers : List ℕ) (attached : ℕ → Bool) (h : List NodeEntry) (e : Engine) (after_read : Bool) (c : Command)
    → IsRunning (declared_of ds) attached h e → AreAttached numbers attached → IsGoodCommand ds numbers after_read c → CanRun e c

-- a command changes the streams that are attached as its line does
abbrev pub AttachedTogether : Type 0
AttachedTogether =
    (numbers : List ℕ) (attached : ℕ → Bool) (c : Command)
    → AreAttached numbers attached → AreAttached (script.attached_after c numbers) (attached_after (line_of c) attached)
