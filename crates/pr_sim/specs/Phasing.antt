-- A phase whose jobs are run one after the other.
use Rattle.std.specs.Prelude.{ℕ, List, [], ◌++◌, ◌≤◌, Bool, cond, IsTrue, Result, Ok, Err, is_some, length, reverse}
use Rattle.std.specs.List.{AllByRecursion, flat_map}
use Rattle.pr_inval.specs.declared.node_fault.NodeFault.{NodeFault}
use Rattle.pr_inval.specs.declared.node_fault.NodeFault.TheVariants as faults
use Rattle.pr_flow.specs.Lies.{IsLied}
use Rattle.pr_flow.specs.declared.stop.Stop.{Stop}
use Rattle.pr_flow.specs.declared.stop.Stop.TheVariants as stops
use Rattle.pr_stamps.specs.declared.no_memory.NoMemory.{NoMemory}
use Rattle.pr_script.specs.declared.command.Command.{Command as Said}
use Rattle.pr_script.specs.declared.decl.Decl.{Decl}
use Rattle.pr_script.specs.declared.owner.Owner.{Owner}
use Rattle.pr_script.specs.Good.{IsGoodPhase}
use Rattle.pr_script.specs.declared.owner.Owner.TheVariants as owner
use Rattle.pr_script.specs.Steps.{Numbered, owner_of, owners_of, turns_in}
use Rattle.pr_story.specs.Commands.{Command}
use Rattle.pr_story.specs.History.{NodeEntry}
use Rattle.pr_story.specs.Scripts.{AreOfCommands, Job, JobBegins, JobGives, ClientJob}
use Rattle.pr_text.specs.Steps.{is_owned_by, line_of, lines_by, single_of}
use Rattle.pr_sim.specs.Commands.{Grows}
use Rattle.pr_sim.specs.Making.{declared_of}
use Rattle.pr_sim.specs.Running.{IsRunning, Tells}
use Rattle.pr_story.specs.Counts.{Declared}
use Rattle.pr_sim.specs.Stepping.{AreAttached, CanRun, CanSend}
use Rattle.pr_sim.specs.declared.engine.Engine.{Engine}

-- a line of a job that can be run
abbrev pub IsJobLine : Engine → Numbered → Type 0
IsJobLine e c = IsTrue (is_some (owner_of c.1)) × CanRun e c.1

-- a phase of few jobs and few turns, each line of which can be run
pub record CanRunPhase (e : Engine) (inside : List Numbered) : Type 0 where
  pub lines : AllByRecursion (IsJobLine e) inside
  pub jobs : length (owners_of inside) ≤ 64
  pub turns : turns_in inside ≤ 1000000

-- the job can be run: its stream is there and attached
abbrev pub CanDo : Engine → Owner → Type 0
CanDo e (owner.Client client) = Unit {0}
CanDo e (owner.Stream stream) = CanSend e stream

-- what the line asks for, if it is one of the client
abbrev pub asked_of : ℕ → Said → List Command
asked_of client c = cond (is_owned_by (owner.Client client) (owner_of c)) (single_of (line_of c)) []

-- what the lines of a client ask for
abbrev pub asked_by : ℕ → List Numbered → List Command
asked_by client inside = flat_map (λ (c : Numbered). single_of (line_of c.1)) (lines_by (owner.Client client) inside)

-- the history grew by an entry for each of these commands, or by a beginning
abbrev pub GivesAll : List Command → Declared → (ℕ → Bool) → List NodeEntry → Engine → Result (Unit {0}) NodeFault → Type 0
GivesAll commands d attached h e r = Grows (λ done es. AreOfCommands commands es) (λ es. JobBegins (ClientJob commands) es) d attached h e r

-- the job was given, or it has begun
abbrev pub JobEnds : Job → Declared → (ℕ → Bool) → List NodeEntry → Engine → Result Stop NoMemory → Type 0
JobEnds job d attached h e (Ok stops.Went) = Grows {X = Unit {0}} (λ done es. JobGives job es) (λ es. JobBegins job es) d attached h e (Ok tt)
JobEnds job d attached h e (Ok (stops.Worn at)) = Grows {X = Unit {0}} (λ done es. JobGives job es) (λ es. JobBegins job es) d attached h e (Err (faults.Worn at))
JobEnds job d attached h e (Ok (stops.Lied stream number sent got)) =
    (new : List NodeEntry) × Tells d (new ++ h) e × JobBegins job (reverse new) × IsLied (new ++ h) stream number sent got
JobEnds job d attached h e (Err refused) = Grows {X = Unit {0}} (λ done es. JobGives job es) (λ es. JobBegins job es) d attached h e (Err faults.NoMemory)

-- a good phase can be run, where the engine runs what is declared and the same streams are attached
abbrev pub GoodPhaseCanRun : Type 0
GoodPhaseCanRun =
    (ds : List Decl) (numbers : List ℕ) (attached : ℕ → Bool) (h : List NodeEntry) (e : Engine) (inside : List Numbered)
    → IsRunning (declared_of ds) attached h e → AreAttached numbers attached → IsGoodPhase ds numbers inside → CanRunPhase e inside
