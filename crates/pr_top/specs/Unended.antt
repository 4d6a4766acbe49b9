-- What comes of a run whose `ok` line is still to be written.
use Rattle.std.specs.Prelude.{◌≡◌, ◌⊎◌, ℕ, List, [], Bool, Option, Some, None, Result, Ok, Err, codes, take}
use Rattle.std.specs.Io.KnownBytes.{Appends}
use Rattle.pr_script.specs.declared.decl.Decl.{Decl}
use Rattle.pr_script.specs.declared.script.Script.{Script}
use Rattle.pr_story.specs.History.{NodeEntry}
use Rattle.pr_story.specs.Scripts.{Order}
use Rattle.pr_text.specs.Endings.{error_line, lied_cause}
use Rattle.pr_text.specs.Heads.{heads_text}
use Rattle.pr_text.specs.Histories.{HasBegun}
use Rattle.pr_top.specs.Downs.{HasTrueDowns}
use Rattle.pr_top.specs.Progress.{HasCome, IsHalt, IsHistoryOver, Writes}
use Rattle.pr_top.specs.Runs.{WritesLine, told_text}
use Rattle.pr_top.specs.declared.running.Expected.{Expected}
use Rattle.pr_top.specs.declared.status.Status.{Status}
use Rattle.pr_top.specs.declared.status.Status.TheVariants as status
use Rattle.pr_top.specs.declared.stepping.Halt.{Halt}
use Rattle.pr_top.specs.declared.stepping.Halt.TheVariants as halts
use Rattle.pr_top.specs.declared.stepping.Run.{Run}

-- what was written of a run that stopped
abbrev pub IsCutShort : Order → (ℕ → Bool) → Script → List NodeEntry → Type 0 → Option (List ℕ) → Option (List ℕ) → Halt → Type 0
IsCutShort order sound s h failed before now halts.NoMemory = (n : ℕ) × Appends before now (take n (told_text s h))
IsCutShort order sound s h failed before now halts.WriteFault = failed × ((n : ℕ) × Appends before now (take n (told_text s h)))
IsCutShort order sound s h failed before now halt = IsHalt order sound s h halt × Appends before now (told_text s h)

-- with this history: all commands were run, and the head lines and the lines of the history written; or the run stopped
abbrev pub HasRunUnendedTo : Order → (ℕ → Bool) → Script → List NodeEntry → Type 0 → Option (List ℕ) → Option (List ℕ) → Result Run Halt → Type 0
HasRunUnendedTo order sound s h failed before now (Ok run) =
    HasCome order s [] h run.engine run.unmet × HasTrueDowns sound s h × Appends before now (told_text s h)
HasRunUnendedTo order sound s h failed before now (Err halt) =
    IsHistoryOver sound s h × HasBegun order s h × IsCutShort order sound s h failed before now halt

abbrev pub HasRunUnended : Order → (ℕ → Bool) → Script → Type 0 → Option (List ℕ) → Option (List ℕ) → Result Run Halt → Type 0
HasRunUnended order sound s failed before now ended = (h : List NodeEntry) × HasRunUnendedTo order sound s h failed before now ended

-- the head lines were written, and the engine has run nothing; or it stopped there
abbrev pub HasBegunWell : Script → Type 0 → Option (List ℕ) → Option (List ℕ) → Result Run Halt → Type 0
HasBegunWell s failed before now (Ok run) =
    ((order : Order) → HasCome order s s.commands [] run.engine run.unmet) × Appends before now (heads_text s.decls.list)
HasBegunWell s failed before now (Err halt) = Writes {X = ℕ} (heads_text s.decls.list) failed before now (Err halt)

-- ---- its last line

-- the run ends with the fault's line, where there is memory to make it; none is written where the sink failed
abbrev pub TellsHalt : List Decl → Halt → Status → Type 0 → Option (List ℕ) → Option (List ℕ) → Type 0
TellsHalt ds halts.WriteFault result failed before now = (result ≡ status.WriteFault) × (now ≡ before)
TellsHalt ds (halts.Worn at) result failed before now = (result ≡ status.Worn at) × WritesLine failed (error_line (codes "worn")) before now
TellsHalt ds (halts.Lied stream number sent got) result failed before now =
    ((result ≡ status.Lied stream number sent got) × WritesLine failed (error_line (lied_cause ds stream number sent got)) before now)
    ⊎ ((result ≡ status.NoMemory) × WritesLine failed (error_line (codes "no memory")) before now)
TellsHalt ds halts.NoMemory result failed before now = (result ≡ status.NoMemory) × WritesLine failed (error_line (codes "no memory")) before now

-- a run that came to its end tells the first expectation that was not met, if there is one
abbrev pub TellsEnd : Option Expected → Status → Type 0 → Option (List ℕ) → Option (List ℕ) → Type 0
TellsEnd None result failed before now = (result ≡ status.Ok) × (now ≡ before)
TellsEnd (Some x) result failed before now = (result ≡ status.Unmet x.line) × WritesLine failed x.text before now
