-- How what a disk held is told, piece after piece.
use Rattle.std.specs.Prelude.{◌≡◌, ◌⊎◌, ◌≤◌, ◌<◌, ◌+◌, ◌++◌, ℕ, List, Option, Result, Ok, Err, drop, get_or, length, map, reverse, take}
use Rattle.std.specs.List.{AllByRecursion}
use Rattle.std.specs.Io.KnownBytes.{Appends}
use Rattle.pr_keep.specs.Entries.{IsKeepable}
use Rattle.pr_keep.specs.Files.{StandsFor}
use Rattle.pr_keep.specs.Keeping.{Keeps}
use Rattle.pr_keep.specs.Memory.{IsImage, Memory, state_of}
use Rattle.pr_keep.specs.declared.keep.Keep.{Keep}
use Rattle.pr_script.specs.declared.decl.Decl.{Decl}
use Rattle.pr_script.specs.declared.script.Script.{Script}
use Rattle.pr_stamps.specs.Kept.{Kept}
use Rattle.pr_story.specs.Counts.{IsHistory}
use Rattle.pr_story.specs.declared.entry.Entry.{Entry}
use Rattle.pr_story.specs.History.{NodeEntry, journal}
use Rattle.pr_text.specs.Endings.{ok_line}
use Rattle.pr_text.specs.Heads.{heads_text}
use Rattle.pr_text.specs.Numbers.{counts_of, nodes_of}
use Rattle.pr_text.specs.Transcripts.{plan_of}
use Rattle.pr_top.specs.Kept.{placed}
use Rattle.pr_top.specs.Outlived.{AreStates, IsHeld}
use Rattle.pr_top.specs.Progress.{IsExpected, Writes, entry_lines}
use Rattle.pr_top.specs.declared.running.Expected.{Expected}
use Rattle.pr_top.specs.declared.stepping.Halt.{Halt}
use Rattle.pr_top.specs.declared.stepping.Halt.TheVariants as halts

-- the entries of a file, as a history has them
abbrev pub unplaced : List (ℕ × Entry) → List NodeEntry
unplaced es = map (λ (e : ℕ × Entry). record { node = e.0; entry = e.1 }) es

-- ---- what is gone on from

-- a history of what is declared, of entries that a file may hold, so few that no node is worn
pub record CanResume (ds : List Decl) (h : List NodeEntry) : Type 0 where
  pub is : IsHistory (plan_of ds) (counts_of ds) h
  pub keepable : AllByRecursion IsKeepable (placed (reverse h))
  pub few : length h < 4611686018427387903

-- these entries, the oldest first, are the journal of node n
abbrev pub IsJournalOf : List NodeEntry → ℕ → List Entry → Type 0
IsJournalOf h n es = reverse es ≡ journal h n

-- these are the journals of the declared nodes
pub record AreJournals (ds : List Decl) (h : List NodeEntry) (journals : List (Kept Entry)) : Type 0 where
  pub many : length journals ≡ nodes_of ds
  pub each : (n : ℕ) (d : Kept Entry) → n < length journals → IsJournalOf h n (get_or journals n d).items

-- a disk stopped behind so many calls: it holds these entries of the run, and the head lines were written and the lines of
-- the first of them
pub record HoldsRest (stop : ℕ) (s : Script) (disk : Memory) (lines : ℕ) (unmet : Option ℕ) (before now : Option (List ℕ)) : Type 0 where
  pub kept : List NodeEntry
  pub held : IsHeld stop s kept unmet
  pub stands : StandsFor (state_of disk).synced (placed (reverse kept))
  pub told : ℕ
  pub within : told ≤ length kept
  pub lines_is : lines ≡ length s.decls.list + told
  pub written : Appends before now (heads_text s.decls.list ++ entry_lines s.decls.list (take told (reverse kept)))

-- ---- what is made and written

-- behind the history these states were made
pub record HasStates (ds : List Decl) (h states : List NodeEntry) : Type 0 where
  pub are : AreStates 0 states
  pub is : IsHistory (plan_of ds) (counts_of ds) (reverse states ++ h)

-- the states of all nodes were made and kept, and their lines written; or some were made, and a beginning of the lines written
abbrev pub TellsStates : List Decl → List NodeEntry → Keep Memory → Type 0 → Option (List ℕ) → Option (List ℕ) → Result (Unit {0}) Halt → Type 0
TellsStates ds h keep failed before now (Ok done) =
    (states : List NodeEntry) × HasStates ds h states × (length states ≡ nodes_of ds) × Appends before now (entry_lines ds states)
    × Keeps state_of (λ m. IsImage m.changes) keep (placed (reverse (reverse states ++ h)))
TellsStates ds h keep failed before now (Err halt) =
    (states : List NodeEntry) × HasStates ds h states × Writes {X = Unit {0}} (entry_lines ds states) failed before now (Err halt)

-- the lines of a history behind so many of them
abbrev pub lines_behind : List Decl → ℕ → List NodeEntry → List ℕ
lines_behind ds told g = entry_lines ds (drop told (reverse g))

-- behind so many of its lines the history was told to its end, with the states of all nodes and the `ok` line, and the first
-- expectation that was not met is to be told; or what was written is a beginning of that
abbrev pub TellsHeld : List Decl → List NodeEntry → ℕ → Option ℕ → Type 0 → Option (List ℕ) → Option (List ℕ) → Result (Option Expected) Halt → Type 0
TellsHeld ds h told unmet failed before now (Ok x) =
    IsExpected unmet x
    × ((states : List NodeEntry) × HasStates ds h states × (length states ≡ nodes_of ds)
    × Appends before now (lines_behind ds told (reverse states ++ h) ++ ok_line (length ds + length (reverse states ++ h))))
TellsHeld ds h told unmet failed before now (Err halts.NoMemory) =
    (states : List NodeEntry) × HasStates ds h states
    × ((n : ℕ) × Appends before now (take n (lines_behind ds told (reverse states ++ h))))
TellsHeld ds h told unmet failed before now (Err halts.WriteFault) =
    failed × ((states : List NodeEntry) × HasStates ds h states
    × ((n : ℕ) × (Appends before now (take n (lines_behind ds told (reverse states ++ h)))
    ⊎ ((length states ≡ nodes_of ds) × Appends before now (take n (lines_behind ds told (reverse states ++ h) ++ ok_line (length ds + length (reverse states ++ h))))))))
TellsHeld ds h told unmet failed before now _ = ⊥
