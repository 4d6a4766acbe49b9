-- How far a kept run has come.
use Rattle.std.specs.Prelude.{◌≡◌, ◌⊎◌, ◌≤◌, ◌+◌, ◌++◌, ℕ, List, [], Option, Some, None, Result, Ok, Err, codes, length, min, reverse, take}
use Rattle.std.specs.Io.KnownBytes.{Appends}
use Rattle.pr_keep.specs.Calls.{IsNotDamaged}
use Rattle.pr_keep.specs.Disk.{State}
use Rattle.pr_keep.specs.declared.fault.KeepFault.{KeepFault}
use Rattle.pr_keep.specs.declared.fault.KeepFault.TheVariants as faults
use Rattle.pr_keep.specs.declared.keep.Keep.{Keep}
use Rattle.pr_script.specs.declared.decl.Decl.{Decl}
use Rattle.pr_script.specs.declared.script.Script.{Script}
use Rattle.pr_sim.specs.declared.engine.Engine.{Engine}
use Rattle.pr_story.specs.declared.entry.Entry.{Entry}
use Rattle.pr_story.specs.History.{NodeEntry}
use Rattle.pr_story.specs.Scripts.{JobAfterJob}
use Rattle.pr_text.specs.Endings.{error_line, unmet_line}
use Rattle.pr_text.specs.Heads.{heads_text}
use Rattle.pr_text.specs.Histories.{HasBegun, IsRunOf, transcript_text}
use Rattle.pr_top.specs.Kept.{IsStoppedIn, KeepsOn, KeepsShort, placed}
use Rattle.pr_top.specs.Progress.{HasCome, IsHistoryOver, entry_lines}
use Rattle.pr_top.specs.Runs.{all_sound, HasRun, IsWritten, WritesLine, told_text}
use Rattle.pr_top.specs.Unended.{TellsHalt}
use Rattle.pr_top.specs.declared.keeping.Break.{Break}
use Rattle.pr_top.specs.declared.keeping.Break.TheVariants as breaks
use Rattle.pr_top.specs.declared.keeping.KeptEnd.{KeptEnd}
use Rattle.pr_top.specs.declared.keeping.KeptEnd.TheVariants as ends
use Rattle.pr_top.specs.declared.running.Expected.{Expected}
use Rattle.pr_top.specs.declared.stepping.Halt.{Halt}
use Rattle.pr_top.specs.declared.stepping.Halt.TheVariants as halts
use Rattle.pr_top.specs.declared.status.Status.{Status}
use Rattle.pr_top.specs.declared.status.Status.TheVariants as status

-- how a run breaks off where an entry was not kept, of which so many were told
abbrev pub break_of : KeepFault → ℕ → Option ℕ → Break
break_of faults.Failed told unmet = breaks.Stopped told unmet
break_of faults.NoMemory told unmet = breaks.Halted halts.NoMemory
break_of (faults.Damaged at) told unmet = breaks.Halted halts.NoMemory

-- the lines of a run that halted were written, or a beginning of them
abbrev pub WritesHalted : Type 0 → List ℕ → Option (List ℕ) → Option (List ℕ) → Halt → Type 0
WritesHalted failed lines before now (halts.Worn at) = Appends before now lines
WritesHalted failed lines before now (halts.Lied stream number sent got) = ⊥
WritesHalted failed lines before now halts.NoMemory = (n : ℕ) × Appends before now (take n lines)
WritesHalted failed lines before now halts.WriteFault = failed × ((n : ℕ) × Appends before now (take n lines))

-- the same with the head lines, and of the `ok` line a beginning
abbrev pub TellsHalted : Script → Type 0 → List NodeEntry → Option (List ℕ) → Option (List ℕ) → Halt → Type 0
TellsHalted s failed h before now (halts.Worn at) = Appends before now (told_text s h)
TellsHalted s failed h before now (halts.Lied stream number sent got) = ⊥
TellsHalted s failed h before now halts.NoMemory = (n : ℕ) × Appends before now (take n (told_text s h))
TellsHalted s failed h before now halts.WriteFault = (text : List ℕ) × IsWritten JobAfterJob status.WriteFault failed s h text × Appends before now text

-- why it halted: a node is worn, behind that many entries
abbrev pub IsHalted : List NodeEntry → Halt → Type 0
IsHalted h (halts.Worn at) = (at ≡ 4611686018427387903) × (4611686018427387903 ≤ length h)
IsHalted h (halts.Lied stream number sent got) = ⊥
IsHalted h halts.NoMemory = Unit {0}
IsHalted h halts.WriteFault = Unit {0}

-- a run that halted ends so, with its last line
abbrev pub EndsHalted : List Decl → Type 0 → Halt → Option (List ℕ) → Option (List ℕ) → KeptEnd → Type 0
EndsHalted ds failed halt before now end = (result : Status) × (end ≡ ends.Ended result) × TellsHalt ds halt result failed before now

-- no file was made, for this fault: where the disk failed nothing is told, and else that memory ran out
abbrev pub IsUnmade : Type 0 → KeepFault → Option (List ℕ) → Option (List ℕ) → KeptEnd → Type 0
IsUnmade failed faults.Failed before now end = (end ≡ ends.Stopped 0 None) × (now ≡ before)
IsUnmade failed faults.NoMemory before now end = (end ≡ ends.Ended status.NoMemory) × WritesLine failed (error_line (codes "no memory")) before now
IsUnmade failed (faults.Damaged at) before now end = ⊥

-- ---- the disk, which had nothing pending when the run began

module _ {D : Type 0} (state : D → State) (images : D → List ℕ → Type 0) (moment : D → ℕ) (images_since : D → ℕ → List ℕ → Type 0) where
  -- the entries behind those that were told were kept, or not all
  abbrev pub HasKeptFrom : Keep D → Keep D → List (ℕ × Entry) → ℕ → Option ℕ → Result (Unit {0}) Break → Type 0
  HasKeptFrom old new all told unmet (Ok done) = KeepsOn state images moment images_since old new all told (length all)
  HasKeptFrom old new all told unmet (Err b) =
      (fault : KeepFault) × (b ≡ break_of fault told unmet) × IsNotDamaged fault
      × ((upto : ℕ) × KeepsShort state images moment images_since old new all told upto fault)

  -- all entries of the history were kept, or some more of what the run made, where memory ran out
  abbrev pub KeepsHalted : Keep D → Keep D → List NodeEntry → Halt → Type 0
  KeepsHalted old new h halt =
      KeepsOn state images moment images_since old new (placed (reverse h)) 0 (length h)
      ⊎ ((halt ≡ halts.NoMemory) × ((later : List NodeEntry) × (upto : ℕ) × (length h ≤ upto)
      × KeepsShort state images moment images_since old new (placed (reverse (later ++ h))) 0 upto faults.NoMemory))

  -- the run halted behind this history, of which all entries were kept
  pub record HasHalted (old new : Keep D) (s : Script) (h : List NodeEntry) (halt : Halt) : Type 0 where
    pub is : IsHistoryOver all_sound s h
    pub begun : HasBegun JobAfterJob s h
    pub cause : IsHalted h halt
    pub kept : KeepsHalted old new h halt

  -- the disk stopped, and so many lines of what was kept were told
  pub record HasStoppedAt (old new : Keep D) (s : Script) (kept : List NodeEntry) (told : ℕ) (unmet : Option ℕ) : Type 0 where
    pub made : List NodeEntry
    pub stopped : IsStoppedIn s kept made unmet
    pub is : IsHistoryOver all_sound s made
    pub front : reverse kept ≡ take (length kept) (reverse made)
    pub short : KeepsShort state images moment images_since old new (placed (reverse made)) 0 (length kept) faults.Failed
    pub within : told ≤ length kept

  -- all commands were run, their entries kept and their lines written; or the run broke off
  abbrev pub HasKeptAll : Keep D → Keep D → Script → Type 0 → Option (List ℕ) → Option (List ℕ) → Engine → Option ℕ → Result (Unit {0}) Break → Type 0
  HasKeptAll old new s failed before now e unmet (Ok done) =
      (h : List NodeEntry) × HasCome JobAfterJob s [] h e unmet × Appends before now (entry_lines s.decls.list (reverse h))
      × KeepsOn state images moment images_since old new (placed (reverse h)) 0 (length h)
  HasKeptAll old new s failed before now e unmet (Err (breaks.Halted halt)) =
      (h : List NodeEntry) × HasHalted old new s h halt × WritesHalted failed (entry_lines s.decls.list (reverse h)) before now halt
  HasKeptAll old new s failed before now e unmet (Err (breaks.Stopped told line)) =
      (kept : List NodeEntry) × HasStoppedAt old new s kept told line × Appends before now (entry_lines s.decls.list (take told (reverse kept)))

  -- the same with the head lines and the `ok` line
  abbrev pub HasKeptTold : Keep D → Keep D → Script → Type 0 → Option (List ℕ) → Option (List ℕ) → Result (Option Expected) Break → Type 0
  HasKeptTold old new s failed before now (Ok None) =
      (h : List NodeEntry) × IsHistoryOver all_sound s h × IsRunOf JobAfterJob s h None × Appends before now (transcript_text s.decls.list h)
      × KeepsOn state images moment images_since old new (placed (reverse h)) 0 (length h)
  HasKeptTold old new s failed before now (Ok (Some x)) =
      (h : List NodeEntry) × IsHistoryOver all_sound s h × IsRunOf JobAfterJob s h (Some x.line) × (x.text ≡ unmet_line x.line)
      × Appends before now (transcript_text s.decls.list h) × KeepsOn state images moment images_since old new (placed (reverse h)) 0 (length h)
  HasKeptTold old new s failed before now (Err (breaks.Halted halt)) =
      (h : List NodeEntry) × HasHalted old new s h halt × TellsHalted s failed h before now halt
  HasKeptTold old new s failed before now (Err (breaks.Stopped told line)) =
      (kept : List NodeEntry) × HasStoppedAt old new s kept told line
      × Appends before now (heads_text s.decls.list ++ entry_lines s.decls.list (take told (reverse kept)))

  -- the run ended so, all of whose entries were kept but where memory ran out
  abbrev pub KeepsEnded : Keep D → Keep D → Status → List NodeEntry → Type 0
  KeepsEnded old new result h =
      KeepsOn state images moment images_since old new (placed (reverse h)) 0 (length h)
      ⊎ ((result ≡ status.NoMemory) × ((later : List NodeEntry) × (upto : ℕ) × (length h ≤ upto)
      × KeepsShort state images moment images_since old new (placed (reverse (later ++ h))) 0 upto faults.NoMemory))

  abbrev pub HasEndedSo : Keep D → Keep D → Script → Type 0 → Option (List ℕ) → Option (List ℕ) → KeptEnd → Type 0
  HasEndedSo old new s failed before now (ends.Ended result) = (run : HasRun JobAfterJob all_sound result s failed before now) × KeepsEnded old new result run.h
  HasEndedSo old new s failed before now (ends.Stopped lines line) =
      (kept : List NodeEntry) × (told : ℕ) × (lines ≡ min (length s.decls.list + told) 18446744073709551615) × HasStoppedAt old new s kept told line
      × Appends before now (heads_text s.decls.list ++ entry_lines s.decls.list (take told (reverse kept)))
