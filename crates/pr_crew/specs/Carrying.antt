-- What a phase adds to what is told of the wires that were closed.
use Rattle.std.specs.Prelude.{ℕ, List, [], ◌∷◌, ◌++◌, ◌≡◌, Option, Result, Ok, filter, reverse}
use Rattle.pr_flow.specs.Crossing.{Carried}
use Rattle.pr_flow.specs.declared.stop.Stop.{Stop}
use Rattle.pr_flow.specs.declared.stop.Stop.TheVariants as stops
use Rattle.pr_merge.specs.Holding.{HeldState}
use Rattle.pr_node.specs.Stored.{Stored}
use Rattle.pr_script.specs.Steps.{Numbered}
use Rattle.pr_stamps.specs.declared.no_memory.NoMemory.{NoMemory}
use Rattle.pr_story.specs.Counts.{Declared}
use Rattle.pr_story.specs.History.{NodeEntry}
use Rattle.pr_story.specs.Scripts.{ClientJob, FlowJob, Job, events_of}
use Rattle.pr_story.specs.Turns.{is_of_stream}
use Rattle.pr_text.specs.Steps.{jobs_of}
use Rattle.pr_crew.specs.Phases.{RepresentsNodes}

-- the entries of stream s among these
abbrev pub of_stream : ℕ → List NodeEntry → List NodeEntry
of_stream s es = filter (λ (e : NodeEntry). is_of_stream e.entry.event s) es

-- what the jobs that gave these entries beside each other added to what is told of the wires closed: each flow, in the
-- order of the jobs, its own wire
abbrev pub JobsCarryBeside : List Job → List NodeEntry → Option (List (List ℕ)) → Option (List (List ℕ)) → Type 0
JobsCarryBeside [] es before now = now ≡ before
JobsCarryBeside (ClientJob asked ∷ jobs) es before now = JobsCarryBeside jobs es before now
JobsCarryBeside (FlowJob s turns ∷ jobs) es before now =
    (then : Option (List (List ℕ))) × Carried s (events_of (of_stream s es)) before then × JobsCarryBeside jobs es then now

-- where each job of a phase went its way, each flow's wire is told of in the order of the jobs
abbrev pub PhaseCarries : (Declared → List NodeEntry → Type 0) → Declared → List NodeEntry → List Numbered → HeldState Stored → Option (List (List ℕ)) → Option (List (List ℕ)) → Result Stop NoMemory → Type 0
PhaseCarries records d h inside s before now (Ok stops.Went) =
    (new : List NodeEntry) × RepresentsNodes records d (new ++ h) s × JobsCarryBeside (jobs_of inside) (reverse new) before now
PhaseCarries records d h inside s before now stop = Unit {0}
