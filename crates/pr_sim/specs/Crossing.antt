-- What crosses the wires of flows in one thread.
use Rattle.std.specs.Prelude.{ℕ, List, [], ◌∷◌, ◌++◌, ◌≡◌, Bool, Option, Result, Ok, Err, reverse}
use Rattle.pr_inval.specs.declared.msg.Msg.{Msg}
use Rattle.pr_inval.specs.declared.node_fault.NodeFault.{NodeFault}
use Rattle.pr_flow.specs.declared.flow_end.FlowEnd.{FlowEnd}
use Rattle.pr_flow.specs.declared.flow_end.FlowEnd.TheVariants as ends
use Rattle.pr_flow.specs.declared.stop.Stop.{Stop}
use Rattle.pr_flow.specs.declared.stop.Stop.TheVariants as stops
use Rattle.pr_flow.specs.Crossing.{Carried, IsCutShort}
use Rattle.pr_flow.specs.Flows.{crossed}
use Rattle.pr_story.specs.declared.cause.Cause.{Cause}
use Rattle.pr_story.specs.declared.cause.Cause.TheVariants as causes
use Rattle.pr_story.specs.declared.event.Event.{Event}
use Rattle.pr_story.specs.History.{NodeEntry}
use Rattle.pr_stamps.specs.declared.no_memory.NoMemory.{NoMemory}
use Rattle.pr_script.specs.declared.command.Command.{Command}
use Rattle.pr_script.specs.declared.command.Command.TheVariants as commands
use Rattle.pr_story.specs.Scripts.{ClientJob, FlowJob, Job, JobGives, events_of}
use Rattle.pr_wires.specs.Calls.{Grows, WireState}
use Rattle.pr_sim.specs.Running.{IsRunning}
use Rattle.pr_story.specs.Counts.{Declared}
use Rattle.pr_sim.specs.declared.engine.Engine.{Engine}

-- ---- one wire

abbrev pub IsRestOfCut : ℕ → Option Msg → Cause → List Event → List ℕ → Type 0
IsRestOfCut s under_way causes.Gap events part = part ≡ []
IsRestOfCut s under_way causes.Failed events part = IsCutShort s under_way causes.Failed events part
IsRestOfCut s under_way causes.Ended events part = IsCutShort s under_way causes.Ended events part

-- what was taken of a message that did not come whole: of one that was cut off a beginning, and else nothing
abbrev pub IsRest : ℕ → Option Msg → FlowEnd → List Event → List ℕ → Type 0
IsRest s under_way (ends.Lied number sent got) events part = part ≡ got
IsRest s under_way (ends.Down cause) events part = IsRestOfCut s under_way cause events part
IsRest s under_way end events part = part ≡ []

-- from one moment of a wire to another the bytes taken over it, where it tells them, grew by the encodings of what the
-- destination accepted or found to lie behind a gap, in order, and then by that rest
abbrev pub Crosses : WireState → WireState → ℕ → Option Msg → FlowEnd → List Event → Type 0
Crosses a b s under_way end events =
    (part : List ℕ) × Grows a.taken b.taken (crossed events ++ part) × IsRest s under_way end events part

-- the history grew by entries of which P holds, the oldest first; nothing is said of a fault
abbrev pub Adds : {X : Type 0} → (X → List NodeEntry → Type 0) → Declared → (ℕ → Bool) → List NodeEntry → Engine → Result X NodeFault → Type 0
Adds P d attached h e (Ok x) = (new : List NodeEntry) × IsRunning d attached (new ++ h) e × P x (reverse new)
Adds P d attached h e (Err fault) = Unit {0}

-- ---- the wires that were closed

-- what a flow added to what is told of the wires closed, where it answers that it went its way
abbrev pub FlowCarries : {E : Type 0} → ℕ → Option (List (List ℕ)) → Option (List (List ℕ)) → Declared → (ℕ → Bool) → List NodeEntry → Engine → Result Stop E → Type 0
FlowCarries s before now d attached h e (Ok stops.Went) = (new : List NodeEntry) × IsRunning d attached (new ++ h) e × Carried s (events_of (reverse new)) before now
FlowCarries s before now d attached h e stop = Unit {0}

-- ---- commands and phases

-- what a command added to what is told of the wires closed
abbrev pub CommandCarries : Command → Option (List (List ℕ)) → Option (List (List ℕ)) → Declared → (ℕ → Bool) → List NodeEntry → Engine → Result Stop NoMemory → Type 0
CommandCarries (commands.Flow s turns) before now d attached h e stop = FlowCarries s before now d attached h e stop
CommandCarries command before now d attached h e stop = now ≡ before

-- what a job that gave these entries added to it
abbrev pub JobCarries : Job → List NodeEntry → Option (List (List ℕ)) → Option (List (List ℕ)) → Type 0
JobCarries (ClientJob asked) es before now = now ≡ before
JobCarries (FlowJob s turns) es before now = Carried s (events_of es) before now

-- what jobs added that gave these entries one after the other
abbrev pub JobsCarry : List Job → List NodeEntry → Option (List (List ℕ)) → Option (List (List ℕ)) → Type 0
JobsCarry [] es before now = (es ≡ []) × (now ≡ before)
JobsCarry (job ∷ jobs) es before now =
    (first : List NodeEntry) × (rest : List NodeEntry) × (then : Option (List (List ℕ))) × (es ≡ first ++ rest) × JobGives job first
    × JobCarries job first before then × JobsCarry jobs rest then now

abbrev pub JobAdds : Job → Option (List (List ℕ)) → Option (List (List ℕ)) → Declared → (ℕ → Bool) → List NodeEntry → Engine → Result Stop NoMemory → Type 0
JobAdds job before now d attached h e (Ok stops.Went) =
    (new : List NodeEntry) × IsRunning d attached (new ++ h) e × JobGives job (reverse new) × JobCarries job (reverse new) before now
JobAdds job before now d attached h e stop = Unit {0}

-- where each job of a phase went its way, each flow's wire is told of in the order of the jobs
abbrev pub PhaseCarries : List Job → Option (List (List ℕ)) → Option (List (List ℕ)) → Declared → (ℕ → Bool) → List NodeEntry → Engine → Result Stop NoMemory → Type 0
PhaseCarries jobs before now d attached h e (Ok stops.Went) = (new : List NodeEntry) × IsRunning d attached (new ++ h) e × JobsCarry jobs (reverse new) before now
PhaseCarries jobs before now d attached h e stop = Unit {0}
