-- What a step of a run gives, and how it stops.
use Rattle.std.specs.Prelude.{◌≡◌, ℕ, List, ◌++◌, All, Bool, Result, Ok, Err, get_or, reverse}
use Rattle.pr_crew.specs.Phases.{IsStopCause, is_went}
use Rattle.pr_crew.specs.Tasks.{first_stop}
use Rattle.pr_flow.specs.declared.stop.Stop.{Stop}
use Rattle.pr_flow.specs.declared.stop.Stop.TheVariants as stops
use Rattle.pr_stamps.specs.declared.no_memory.NoMemory.{NoMemory}
use Rattle.pr_script.specs.declared.decl.Decl.{Decl}
use Rattle.pr_script.specs.Good.{AreGoodDecls, IsGoodPhase}
use Rattle.pr_script.specs.Steps.{Numbered}
use Rattle.pr_sim.specs.Commands.{attached_of}
use Rattle.pr_sim.specs.Making.{declared_of}
use Rattle.pr_sim.specs.Running.{IsRunning, Tells}
use Rattle.pr_sim.specs.Stepping.{AreAttached}
use Rattle.pr_sim.specs.declared.engine.Engine.{Engine}
use Rattle.pr_story.specs.Counts.{Declared}
use Rattle.pr_story.specs.History.{NodeEntry}
use Rattle.pr_story.specs.Phases.{LineBeginsAs}
use Rattle.pr_story.specs.Scripts.{ByTime, JobAfterJob, Line, LineBegins, LineGives, Order, attached_after}
use Rattle.pr_top.specs.declared.stepping.Halt.{Halt}
use Rattle.pr_top.specs.declared.stepping.Halt.TheVariants as halts

-- the engine has run what is declared, and this is a good phase to come
pub record IsReadyFor (e : Engine) (inside : List Numbered) : Type 0 where
  pub decls : List Decl
  pub numbers : List ℕ
  pub attached : ℕ → Bool
  pub h : List NodeEntry
  pub good_decls : AreGoodDecls decls
  pub running : IsRunning (declared_of decls) attached h e
  pub same : AreAttached numbers attached
  pub good : IsGoodPhase decls numbers inside

-- ---- a line that was cut off

-- behind h these entries came, newest first; each job of a phase ended so, for its cause: those that went their way gave
-- all that is theirs, and the first that did not is where the line stopped
pub record HasStoppedBeside (streams : List ℕ) (line : Line) (h new : List NodeEntry) (stop : Result Stop NoMemory) : Type 0 where
  pub each : List (Result Stop NoMemory)
  pub first : stop ≡ first_stop each
  pub causes : All (IsStopCause (new ++ h)) each
  pub begun : LineBeginsAs (λ k. is_went (get_or each k (Ok stops.Went))) ByTime streams line (reverse new)

abbrev pub IsCutOff : Order → List ℕ → Line → List NodeEntry → List NodeEntry → Result Stop NoMemory → Type 0
IsCutOff JobAfterJob streams line h new stop = LineBegins JobAfterJob streams line (reverse new) × IsStopCause (new ++ h) stop
IsCutOff ByTime streams line h new stop = HasStoppedBeside streams line h new stop

-- ---- a line that was run

-- after h the line gave its entries, with those of a phase in this order; or it was cut off, for a lie on one of these
-- streams alone
abbrev pub StepsSo : Order → (ℕ → Type 0) → Line → Declared → (ℕ → Bool) → List NodeEntry → Engine → Result Stop NoMemory → Type 0
StepsSo order P line d attached h e (Ok stops.Went) =
    (new : List NodeEntry) × IsRunning d (attached_after line attached) (new ++ h) e × LineGives order (attached_of d attached) line (reverse new)
StepsSo order P line d attached h e (Ok (stops.Worn at)) =
    (new : List NodeEntry) × Tells d (new ++ h) e × IsCutOff order (attached_of d attached) line h new (Ok (stops.Worn at))
StepsSo order P line d attached h e (Ok (stops.Lied stream number sent got)) =
    P stream × ((new : List NodeEntry) × Tells d (new ++ h) e × IsCutOff order (attached_of d attached) line h new (Ok (stops.Lied stream number sent got)))
StepsSo order P line d attached h e (Err refused) =
    (new : List NodeEntry) × Tells d (new ++ h) e × LineBegins order (attached_of d attached) line (reverse new)

-- the answer of a step as the run's
abbrev pub IsWent : Result Stop NoMemory → Result (Unit {0}) Halt → Type 0
IsWent (Ok stops.Went) r = r ≡ Ok tt
IsWent (Ok (stops.Worn at)) r = r ≡ Err (halts.Worn at)
IsWent (Ok (stops.Lied stream number sent got)) r = r ≡ Err (halts.Lied stream number sent got)
IsWent (Err refused) r = r ≡ Err halts.NoMemory
