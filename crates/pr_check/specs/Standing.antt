-- What a judge stands for.
use Rattle.std.specs.Prelude.{ℕ, ◌≡◌, ◌⊎◌, List, [], ◌∷◌, ◌++◌, Bool, Option, Some, None, Result, Ok, Err}
use Rattle.pr_script.specs.declared.decl.Decl.{Decl}
use Rattle.pr_script.specs.Labels.{AreLabels}
use Rattle.pr_script.specs.Printing.{decl_lines}
use Rattle.pr_sim.specs.Making.{declared_of}
use Rattle.pr_sim.specs.Running.{IsRunning, Tells}
use Rattle.pr_sim.specs.declared.engine.Engine.{Engine}
use Rattle.pr_stamps.specs.declared.no_memory.NoMemory.{NoMemory}
use Rattle.pr_story.specs.History.{NodeEntry}
use Rattle.pr_check.specs.Asking.{HasAllAttached}
use Rattle.pr_check.specs.Heads.{AreAccepted}
use Rattle.pr_check.specs.Judging.{AreHeads, BeginsTranscript, IsAlone, IsBroken, IsTranscript, told_lines, whole_lines}
use Rattle.pr_check.specs.declared.judge.Judge.{Judge}
use Rattle.pr_check.specs.declared.stage.Stage.{Stage}
use Rattle.pr_check.specs.declared.stage.Stage.TheVariants as stages
use Rattle.pr_check.specs.declared.transcript.Transcript.{Transcript}
use Rattle.pr_check.specs.declared.verdict.Verdict.{Verdict}
use Rattle.pr_check.specs.declared.verdict.Verdict.TheVariants as verdicts

-- the engine has made what the lines behind the head lines say, and each stream that was attached still is
abbrev pub HasReplayed : List Decl → Engine → List (List ℕ) → Type 0
HasReplayed ds e lines =
    (attached : ℕ → Bool) × (h : List NodeEntry) × IsRunning (declared_of ds) attached h e × HasAllAttached attached h × (lines ≡ told_lines ds h)

-- the engine has made a whole history, and these are all lines of its transcript
abbrev pub HasEnded : List Decl → Engine → List (List ℕ) → Type 0
HasEnded ds e lines = (h : List NodeEntry) × IsAlone ds h × Tells (declared_of ds) h e × (lines ≡ whole_lines ds h)

abbrev pub StandsAt : List Decl → Stage → List (List ℕ) → Type 0
StandsAt ds stages.Heads lines = lines ≡ decl_lines [] ds
StandsAt ds (stages.Events e) lines = HasReplayed ds e lines × ¬ AreHeads lines
StandsAt ds (stages.Ended e) lines = HasEnded ds e lines
StandsAt ds stages.Spent lines = ⊥

-- what is known of a judge's declarations, whatever its verdicts were
pub record HasDecls (ds : List Decl) : Type 0 where
  pub accepted : AreAccepted ds
  pub labels : AreLabels ds

-- the judge has found these lines good
pub record Judges (judge : Judge) (lines : List (List ℕ)) : Type 0 where
  pub decls : HasDecls judge.decls.list
  pub stands : StandsAt judge.decls.list judge.stage lines

-- it judges no line more
abbrev pub IsSpent : Judge → Type 0
IsSpent judge = judge.stage ≡ stages.Spent

-- all its verdicts so far were good, or it is spent
abbrev pub IsUsable : Judge → Type 0
IsUsable judge = IsSpent judge ⊎ ((lines : List (List ℕ)) × Judges judge lines)

-- a spent judge's answer
abbrev pub IsRefused : Result Verdict NoMemory → Type 0
IsRefused (Ok verdict) = ⊥
IsRefused (Err fault) = Unit {0}

-- ---- verdicts

-- the verdict on a line behind these, which the judge then stands for too
abbrev pub IsVerdict : List (List ℕ) → List ℕ → Judge → Result Verdict NoMemory → Type 0
IsVerdict lines line now (Ok verdicts.Good) = BeginsTranscript (lines ++ line ∷ []) × Judges now (lines ++ line ∷ [])
IsVerdict lines line now (Ok (verdicts.Bad why)) = ¬ BeginsTranscript (lines ++ line ∷ []) × IsBroken lines line why × IsSpent now
IsVerdict lines line now (Err fault) = IsSpent now

-- these are all lines of the transcript
pub record HasLines (t : Transcript) (lines : List (List ℕ)) : Type 0 where
  pub accepted : AreAccepted t.decls.list
  pub ended : HasEnded t.decls.list t.engine lines

-- what the lines are, behind which no line comes
abbrev pub IsFinished : List (List ℕ) → Result (Option Transcript) NoMemory → Type 0
IsFinished lines (Ok (Some t)) = HasLines t lines
IsFinished lines (Ok None) = ¬ IsTranscript lines
IsFinished lines (Err fault) = ⊥
