-- A run whose entries are kept on a disk (docs/KEPT.md).
use Rattle.std.specs.Prelude.{◌≡◌, ◌≢◌, ◌⊎◌, ◌≤◌, ◌<◌, ◌+◌, ◌*◌, ◌++◌, ℕ, List, [], ◌∷◌, false, Option, None, filter, length, map, min, reverse, take}
use Rattle.std.specs.Io.KnownBytes.{Appends}
use Rattle.pr_keep.specs.Calls.{HasCause, HasCountedBelow, fails, succeeds}
use Rattle.pr_keep.specs.Disk.{LeavesOnly, Only, State, counted}
use Rattle.pr_keep.specs.Files.{StandsFor}
use Rattle.pr_keep.specs.Keeping.{Keeps, disk_of}
use Rattle.pr_keep.specs.declared.fault.KeepFault.{KeepFault}
use Rattle.pr_keep.specs.declared.fault.KeepFault.TheVariants.{Failed}
use Rattle.pr_keep.specs.declared.keep.Keep.{Keep}
use Rattle.pr_ports.specs.Faults.{HasRisen}
use Rattle.pr_script.specs.Steps.{Step, steps_of}
use Rattle.pr_script.specs.declared.script.Script.{Script}
use Rattle.pr_story.specs.declared.entry.Entry.{Entry}
use Rattle.pr_story.specs.History.{NodeEntry}
use Rattle.pr_story.specs.Scripts.{JobAfterJob, LineBegins}
use Rattle.pr_text.specs.Heads.{heads_text}
use Rattle.pr_text.specs.Histories.{EachGives, attached_by, joined, streams_of, unmet_from}
use Rattle.pr_text.specs.Steps.{step_line}
use Rattle.pr_top.specs.Progress.{IsHistoryOver, entry_lines}
use Rattle.pr_top.specs.Runs.{all_sound, HasRun}
use Rattle.pr_top.specs.declared.keeping.KeptEnd.{KeptEnd}
use Rattle.pr_top.specs.declared.keeping.KeptEnd.TheVariants as ends
use Rattle.pr_top.specs.declared.status.Status.{Status}
use Rattle.pr_top.specs.declared.status.Status.TheVariants as status

-- ---- entries in a file

-- the entries of a history, the oldest first, as a file has them
abbrev pub placed : List NodeEntry → List (ℕ × Entry)
placed es = map (λ (e : NodeEntry). (e.node, e.entry)) es

-- the file stands for a beginning of these entries
abbrev pub StandsForFront : List (ℕ × Entry) → List ℕ → Type 0
StandsForFront es file = (n : ℕ) × StandsFor file (take n es)

-- ---- a run that was stopped

-- the disk stopped while the run was made, newest first: each step before gave its part, and all of these were kept; the
-- line of the next step made some entries, of which the first were kept and not all; and this is the line of the first
-- expectation of the steps before that was not met
pub record IsStoppedIn (s : Script) (kept made : List NodeEntry) (unmet : Option ℕ) : Type 0 where
  pub before : List Step
  pub under_way : Step
  pub behind : List Step
  pub steps : steps_of s.commands ≡ before ++ under_way ∷ behind
  pub parts : List (List NodeEntry)
  pub each : EachGives JobAfterJob (streams_of s.decls.list) (λ t. false) (map step_line before) parts
  pub part : List NodeEntry
  pub begins : LineBegins JobAfterJob (filter (attached_by (map step_line before) (λ t. false)) (streams_of s.decls.list)) (step_line under_way) part
  pub made_is : made ≡ reverse (joined parts ++ part)
  pub first : ℕ
  pub few : first < length part
  pub kept_is : kept ≡ reverse (joined parts ++ take first part)
  pub unmet_is : unmet ≡ unmet_from [] before parts

-- ---- what a run leaves of its disk

module _ {D : Type 0} (state : D → State) (images : D → List ℕ → Type 0) (moment : D → ℕ) (images_since : D → ℕ → List ℕ → Type 0) where
  -- behind the first `from` of these entries the next ones were kept, up to `upto`, each by four good calls; at every moment
  -- each image stands for a beginning of all
  pub record KeepsOn (old new : Keep D) (all : List (ℕ × Entry)) (from upto : ℕ) : Type 0 where
    pub within : from ≤ upto
    pub keeps : Keeps state images new (take upto all)
    pub calls : ℕ
    pub many : calls + 4 * from ≡ 4 * upto
    pub good : (state (disk_of new)).good ≡ counted (state (disk_of old)).good calls
    pub moments : LeavesOnly moment images_since (disk_of old) (disk_of new) (StandsForFront all)
    pub cause : HasCause (state (disk_of old)) (state (disk_of new)) succeeds

  -- the same up to an entry that was not kept
  pub record KeepsShort (old new : Keep D) (all : List (ℕ × Entry)) (from upto : ℕ) (fault : KeepFault) : Type 0 where
    pub within : from ≤ upto
    pub short : upto < length all
    pub synced : StandsFor (state (disk_of new)).synced (take upto all)
    pub calls : ℕ
    pub more : ℕ
    pub few : more < 4
    pub many : calls + 4 * from ≡ 4 * upto + more
    pub good : (state (disk_of new)).good ≡ counted (state (disk_of old)).good calls
    pub moments : LeavesOnly moment images_since (disk_of old) (disk_of new) (StandsForFront all)
    pub cause : HasCause (state (disk_of old)) (state (disk_of new)) (fails fault)

  -- a file of no entry was made on the disk, by two good calls
  pub record HasMadeFile (old made : D) : Type 0 where
    pub stands : StandsFor (state made).reads []
    pub only : Only (state made).reads (images made)
    pub good : (state made).good ≡ counted (state old).good 2
    pub cause : HasCause (state old) (state made) succeeds

  -- none was
  pub record HasMadeNone (old new : D) (fault : KeepFault) : Type 0 where
    pub good : HasCountedBelow 2 (state old).good (state new).good
    pub cause : HasCause (state old) (state new) (fails fault)

  -- from the file of no entry on, each image stands for a beginning of what the run made: the entries of its history and,
  -- only where memory ran out, some more
  pub record EndsOn (old new : D) (result : Status) (h : List NodeEntry) : Type 0 where
    pub made : D
    pub file : HasMadeFile old made
    pub later : List NodeEntry
    pub moments : LeavesOnly moment images_since made new (StandsForFront (placed (reverse (later ++ h))))
    pub more : ℕ
    pub good : (state new).good ≡ counted (state made).good (4 * length h + more)
    pub exact : result ≢ status.NoMemory → (more ≡ 0) × (later ≡ [])
    pub cause : HasCause (state made) (state new) succeeds

  -- the same up to where the disk stopped: what was kept is what it read as after its last sync
  pub record StopsOn (old new : D) (kept made : List NodeEntry) : Type 0 where
    pub empty : D
    pub file : HasMadeFile old empty
    pub moments : LeavesOnly moment images_since empty new (StandsForFront (placed (reverse made)))
    pub synced : StandsFor (state new).synced (placed (reverse kept))
    pub more : ℕ
    pub few : more < 4
    pub good : (state new).good ≡ counted (state empty).good (4 * length kept + more)
    pub cause : HasCause (state empty) (state new) (fails Failed)

  -- the run ended as one without a disk does; or memory ran out before there was a file
  abbrev pub HasEndedKept : D → D → Status → Script → Type 0 → Option (List ℕ) → Option (List ℕ) → Type 0
  HasEndedKept old new result s failed before now =
      (run : HasRun JobAfterJob all_sound result s failed before now)
      × (EndsOn old new result run.h ⊎ ((result ≡ status.NoMemory) × (run.h ≡ []) × ((fault : KeepFault) × HasMadeNone old new fault)))

  -- the disk stopped: before there was a file, or later, where the head lines were written and the lines of the first
  -- entries that were kept
  abbrev pub HasStoppedKept : D → D → ℕ → Option ℕ → Script → Option (List ℕ) → Option (List ℕ) → Type 0
  HasStoppedKept old new lines unmet s before now =
      HasRisen (state old).faults (state new).faults
      × (((lines ≡ 0) × (unmet ≡ None) × Appends before now [] × HasMadeNone old new Failed)
      ⊎ ((kept : List NodeEntry) × (made : List NodeEntry) × IsStoppedIn s kept made unmet × IsHistoryOver all_sound s made
      × StopsOn old new kept made
      × ((told : ℕ) × (told ≤ length kept) × (lines ≡ min (length s.decls.list + told) 18446744073709551615)
      × Appends before now (heads_text s.decls.list ++ entry_lines s.decls.list (take told (reverse kept))))))

  -- how a kept run ended
  abbrev pub HasRunKept : D → D → KeptEnd → Script → Type 0 → Option (List ℕ) → Option (List ℕ) → Type 0
  HasRunKept old new (ends.Ended result) s failed before now = HasEndedKept old new result s failed before now
  HasRunKept old new (ends.Stopped lines unmet) s failed before now = HasStoppedKept old new lines unmet s before now
