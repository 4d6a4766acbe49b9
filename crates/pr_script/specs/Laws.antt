-- What holds of all scripts.
use Rattle.std.specs.Prelude.{◌≡◌, ◌<◌, ◌+◌, ℕ, List, ◌∷◌, Result, Ok, map, length, take, drop, true, false}
use Rattle.std.specs.List.{position_or_len}
use Rattle.pr_script.specs.declared.command.Command.{Command}
use Rattle.pr_script.specs.declared.script.Script.{Script}
use Rattle.pr_script.specs.Good.{IsGood}
use Rattle.pr_script.specs.Labels.{AreLabels}
use Rattle.pr_script.specs.Reading.{Means}
use Rattle.pr_script.specs.Printing.{script_text}
use Rattle.pr_script.specs.Steps.{Numbered, Alone, Phase, is_phase, is_end, steps_of, AreWhole}

-- bytes have one meaning
abbrev pub HaveOneMeaning : Type 0
HaveOneMeaning = (bytes : List ℕ) (a b : Result Script (ℕ × ℕ)) → Means bytes a → Means bytes b → a ≡ b

-- and each have one
abbrev pub HaveAMeaning : Type 0
HaveAMeaning = (bytes : List ℕ) → (a : Result Script (ℕ × ℕ)) × Means bytes a

-- the commands without the numbers of their lines
abbrev pub commands_of : Script → List Command
commands_of s = map (λ (c : ℕ × Command). c.1) s.commands

-- the same script but for the numbers of lines
pub record IsAlike (s t : Script) : Type 0 where
  pub decls : s.decls ≡ t.decls
  pub commands : commands_of s ≡ commands_of t

-- what a script is printed as is read as the same script but for the numbers of lines
abbrev pub ReadsBack : Type 0
ReadsBack = (bytes : List ℕ) (s : Script) → Means bytes (Ok s) → (t : Script) × Means (script_text s) (Ok t) × IsAlike s t

-- the labels of an accepted script tell its nodes, clients and streams apart
abbrev pub HaveLabels : Type 0
HaveLabels = (bytes : List ℕ) (s : Script) → Means bytes (Ok s) → AreLabels s.decls.list

-- an accepted script is good for a run
abbrev pub AreGoodScripts : Type 0
AreGoodScripts = (bytes : List ℕ) (s : Script) → Means bytes (Ok s) → IsGood s

-- ---- steps, one after the other

-- a command that is no `phase` is a step by itself
abbrev pub StepAlone : Type 0
StepAlone = (c : Numbered) (cs : List Numbered) → is_phase c.1 ≡ false → (steps_of (c ∷ cs) ≡ Alone c ∷ steps_of cs) × (AreWhole (c ∷ cs) → AreWhole cs)

-- where steps are whole, a `phase` is followed by what is inside it, its `end` and the other steps
abbrev pub StepOfPhase : Type 0
StepOfPhase =
    (c : Numbered) (cs : List Numbered) (n : ℕ) → is_phase c.1 ≡ true → n ≡ position_or_len (λ (x : Numbered). is_end x.1) cs → AreWhole (c ∷ cs)
    → (n < length cs) × (steps_of (c ∷ cs) ≡ Phase (take n cs) ∷ steps_of (drop (n + 1) cs)) × AreWhole (drop (n + 1) cs)
