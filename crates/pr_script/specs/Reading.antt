-- A script's lines one after the other, and what stands after some of the bytes.
use Rattle.std.specs.Prelude.{◌≡◌, ◌≢◌, ◌≤◌, ℕ, ◌+◌, List, [], ◌∷◌, ◌++◌, Option, Some, None, is_some, Result, Ok, Err, Bool, true, ◌||◌, ◌==◌, if◌then◌else◌}
use Rattle.std.specs.List.{flat_map, AllByRecursion}
use Rattle.pr_script.specs.declared.script.Script.{Script}
use Rattle.pr_script.specs.declared.known.Known.{Known}
use Rattle.pr_script.specs.declared.command.Command.{Command}
use Rattle.pr_script.specs.declared.command.Command.TheVariants as commands
use Rattle.pr_script.specs.declared.item.Item.{Item}
use Rattle.pr_script.specs.declared.item.Item.TheVariants as items
use Rattle.pr_script.specs.Labels.{IsNew}
use Rattle.pr_script.specs.Known.{nothing_known, known_after}
use Rattle.pr_script.specs.Fields.{skip_spaces}
use Rattle.pr_script.specs.Lines.{line_item}

-- a line and its end
abbrev pub ended : List ℕ → List ℕ
ended line = line ++ 10 ∷ []

abbrev pub HasNoEnd : List ℕ → Type 0
HasNoEnd line = AllByRecursion (λ b. b ≢ 10) line

-- the bytes are these lines, each with its end, and a rest without one
pub record IsCut (bytes : List ℕ) (lines : List (List ℕ)) (rest : List ℕ) : Type 0 where
  pub whole : bytes ≡ flat_map ended lines ++ rest
  pub each : AllByRecursion HasNoEnd lines
  pub last : HasNoEnd rest

-- what the lines so far said, or the first of them that breaks a rule, and the rule
pub record Sofar : Type 0 where
  pub lines : ℕ
  pub known : Known
  pub commands : List (ℕ × Command)
  pub fault : Option (ℕ × ℕ)

abbrev pub start : Sofar
start = record { lines = 0; known = nothing_known; commands = []; fault = None }

-- a command stands in the script with the number of its line
abbrev pub numbered : ℕ → Item → List (ℕ × Command)
numbered n (items.Decl d) = []
numbered n (items.Command c) = (n, c) ∷ []

abbrev pub starts_comment : List ℕ → Bool
starts_comment [] = true
starts_comment (b ∷ bs) = b == 35

-- spaces alone, or a comment
abbrev pub is_skipped : List ℕ → Bool
is_skipped line = starts_comment (skip_spaces line)

abbrev pub told : Sofar → Result Item ℕ → Sofar
told f (Ok item) = record { lines = f.lines + 1; known = known_after f.known item; commands = f.commands ++ numbered (f.lines + 1) item; fault = f.fault }
told f (Err why) = record { lines = f.lines + 1; known = f.known; commands = f.commands; fault = Some (f.lines + 1, why) }

abbrev pub passed : Sofar → Sofar
passed f = record { lines = f.lines + 1; known = f.known; commands = f.commands; fault = f.fault }

-- one more line
unfoldable pub next : Sofar → List ℕ → Sofar
next f line =
    if is_some f.fault || is_skipped line then passed f
    else told f (line_item f.known line)

abbrev pub after : Sofar → List (List ℕ) → Sofar
after f [] = f
after f (line ∷ lines) = after (next f line) lines

-- a last line may lack its end
abbrev pub all_lines : List (List ℕ) → List ℕ → List (List ℕ)
all_lines lines [] = lines
all_lines lines (b ∷ bs) = lines ++ (b ∷ bs) ∷ []

-- a phase that is not ended breaks rule 12 one past the last line
abbrev pub phase_fault : Sofar → Option (ℕ × ℕ)
phase_fault f = if f.known.in_phase then Some (f.lines + 1, 12) else None

abbrev pub unless_fault : Option (ℕ × ℕ) → Result Script (ℕ × ℕ) → Result Script (ℕ × ℕ)
unless_fault None r = r
unless_fault (Some x) r = Err x

abbrev pub script_of : Sofar → Script
script_of f = record { decls = record { list = f.known.decls }; commands = f.commands }

abbrev pub answer_of : Sofar → Result Script (ℕ × ℕ)
answer_of f = unless_fault f.fault (unless_fault (phase_fault f) (Ok (script_of f)))

-- the script of these bytes, or the first bad line and its rule
abbrev pub Means : List ℕ → Result Script (ℕ × ℕ) → Type 0
Means bytes answer = (lines : List (List ℕ)) × (rest : List ℕ) × IsCut bytes lines rest × (answer ≡ answer_of (after start (all_lines lines rest)))

-- these are bytes that lead to what is kept: what the whole lines said, and the line under way
abbrev pub StandsFor : Sofar → List ℕ → List ℕ → Type 0
StandsFor f rest bytes = (lines : List (List ℕ)) × IsCut bytes lines rest × (f ≡ after start lines)

-- what a reader keeps
pub record Kept : Type 0 where
  pub sofar : Sofar
  pub rest : List ℕ
  pub spent : Bool

-- what an accepted line adds has a place: its label is a new one and there are few of its kind, or its turns pass no
-- limit
abbrev pub Fits : Known → Item → Type 0
Fits k (items.Decl d) = IsNew k.decls d
Fits k (items.Command (commands.Flow stream turns)) = k.turns + turns ≤ 1000000
Fits k (items.Command c) = Unit {0}
