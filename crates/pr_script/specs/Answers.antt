-- What reading answers.
use Rattle.std.specs.Prelude.{◌≡◌, ℕ, List, Result, Ok, Err, false}
use Rattle.pr_script.specs.declared.script.Script.{Script}
use Rattle.pr_script.specs.declared.fault.ScriptFault.{ScriptFault}
use Rattle.pr_script.specs.declared.fault.ScriptFault.TheVariants as faults
use Rattle.pr_script.specs.Reading.{Sofar, Kept, IsCut, StandsFor, Means, after, start, all_lines}

-- a result is this answer, unless memory ran out
abbrev pub Told : Result Script ScriptFault → Result Script (ℕ × ℕ) → Type 0
Told (Ok s) answer = answer ≡ Ok s
Told (Err (faults.Bad line why)) answer = answer ≡ Err (line, why)
Told (Err faults.NoMemory) answer = Unit {0}

-- the lines of all the bytes were read, the last too
abbrev pub IsEnd : Sofar → List ℕ → Type 0
IsEnd f bytes = (lines : List (List ℕ)) × (rest : List ℕ) × IsCut bytes lines rest × (f ≡ after start (all_lines lines rest))

-- what these bytes mean is the result, unless memory ran out
abbrev pub Answers : Result Script ScriptFault → List ℕ → Type 0
Answers (Ok s) bytes = Means bytes (Ok s)
Answers (Err (faults.Bad line why)) bytes = Means bytes (Err (line, why))
Answers (Err faults.NoMemory) bytes = Unit {0}

-- a reader that is not spent stands for these bytes
abbrev pub Holds : Kept → List ℕ → Type 0
Holds k bytes = (k.spent ≡ false) × StandsFor k.sofar k.rest bytes
