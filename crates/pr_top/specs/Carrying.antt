-- What the lines of a script add to what is told of the wires closed, where it is run over wires.
use Rattle.std.specs.Prelude.{◌≡◌, ◌+◌, ◌++◌, ℕ, Bool, List, [], ◌∷◌, Option, Result, Ok, Err, drop, false, map, reverse}
use Rattle.pr_crew.specs.Carrying.{JobsCarryBeside}
use Rattle.pr_flow.specs.Crossing.{Carried}
use Rattle.pr_script.specs.declared.script.Script.{Script}
use Rattle.pr_script.specs.Steps.{Numbered, Step, steps_of}
use Rattle.pr_sim.specs.Making.{declared_of}
use Rattle.pr_sim.specs.Running.{Tells}
use Rattle.pr_sim.specs.declared.engine.Engine.{Engine}
use Rattle.pr_story.specs.History.{NodeEntry}
use Rattle.pr_story.specs.Scripts.{ByTime, Flow, Line, Phase, events_of}
use Rattle.pr_text.specs.Histories.{EachGives, joined, streams_of}
use Rattle.pr_text.specs.Steps.{lines_of, step_line}
use Rattle.pr_top.specs.Runs.{HasRun, IsToEnd}
use Rattle.pr_top.specs.declared.status.Status.{Status}
use Rattle.pr_top.specs.declared.stepping.Halt.{Halt}
use Rattle.pr_top.specs.declared.stepping.Run.{Run}

-- ---- lines

-- what a line that gave these entries added to what is told of the wires closed
abbrev pub LineCarries : Line → List NodeEntry → Option (List (List ℕ)) → Option (List (List ℕ)) → Type 0
LineCarries (Flow s turns) es before now = Carried s (events_of es) before now
LineCarries (Phase jobs) es before now = JobsCarryBeside jobs es before now
LineCarries line es before now = now ≡ before

-- what lines added, one after the other, that gave these entries, one list for each
abbrev pub LinesCarry : List Line → List (List NodeEntry) → Option (List (List ℕ)) → Option (List (List ℕ)) → Type 0
LinesCarry [] [] before now = now ≡ before
LinesCarry (line ∷ lines) (part ∷ parts) before now =
    (then : Option (List (List ℕ))) × LineCarries line part before then × LinesCarry lines parts then now
LinesCarry [] (part ∷ parts) before now = ⊥
LinesCarry (line ∷ lines) [] before now = ⊥

-- ---- the run of a script

-- each line of the script gave its part of the history, newest first, and added what it carried
pub record HasCarried (s : Script) (h : List NodeEntry) (before now : Option (List (List ℕ))) : Type 0 where
  pub parts : List (List NodeEntry)
  pub each : EachGives ByTime (streams_of s.decls.list) (λ stream. false) (lines_of s.commands) parts
  pub whole : h ≡ reverse (joined parts)
  pub carried : LinesCarry (lines_of s.commands) parts before now

-- the script was run over connections of which these are sound; where it was run to its end, its lines added what they
-- carried to what is told of the wires closed
abbrev pub HasRunOver : (ℕ → Bool) → Option (List (List ℕ)) → Option (List (List ℕ)) → Status → Script → Type 0 → Option (List ℕ) → Option (List ℕ) → Type 0
HasRunOver sound carried carried_now result s failed before now =
    (run : HasRun ByTime sound result s failed before now) × (IsToEnd result → HasCarried s run.h carried carried_now)

-- ---- a run under way

-- the steps before the commands that are left gave these parts, which are the history, and added what they carried
pub record HasCarriedSofar (s : Script) (rest : List Numbered) (h : List NodeEntry) (before now : Option (List (List ℕ))) : Type 0 where
  pub done : List Step
  pub parts : List (List NodeEntry)
  pub steps : steps_of s.commands ≡ done ++ steps_of rest
  pub each : EachGives ByTime (streams_of s.decls.list) (λ stream. false) (map step_line done) parts
  pub whole : joined parts ≡ reverse h
  pub carried : LinesCarry (map step_line done) parts before now

-- the same, for the history that the engine tells
abbrev pub TellsCarried : Script → List Numbered → Engine → Option (List (List ℕ)) → Option (List (List ℕ)) → Type 0
TellsCarried s rest e before now = (h : List NodeEntry) × Tells (declared_of s.decls.list) h e × HasCarriedSofar s rest h before now

-- behind h a step ran the first of the commands that are left and so many behind it: whatever was carried so far, it added
-- what its line carried
abbrev pub StepCarries : Script → List Numbered → List NodeEntry → Engine → Option (List (List ℕ)) → Option (List (List ℕ)) → Result ℕ Halt → Type 0
StepCarries s rest h e before now (Ok n) =
    (first : Option (List (List ℕ))) → HasCarriedSofar s rest h first before → TellsCarried s (drop (n + 1) rest) e first now
StepCarries s rest h e before now (Err halt) = Unit {0}

-- all commands ran, or the run stopped
abbrev pub UnendedCarries : Script → List NodeEntry → Option (List (List ℕ)) → Option (List (List ℕ)) → Result Run Halt → Type 0
UnendedCarries s h before now (Ok run) = HasCarriedSofar s [] h before now
UnendedCarries s h before now (Err halt) = Unit {0}
