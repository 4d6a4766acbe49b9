-- A disk that is kept: what it stands for, and nothing is pending.
use Rattle.std.specs.Prelude.{◌≡◌, ℕ, List, length}
use Rattle.pr_story.specs.declared.entry.Entry.{Entry}
use Rattle.pr_keep.specs.declared.keep.Keep.{Keep}
use Rattle.pr_keep.specs.Disk.{Only, State}
use Rattle.pr_keep.specs.Files.{StandsFor, front}

abbrev pub disk_of : {D : Type 0} → Keep D → D
disk_of keep = keep.disk

-- the disk stands for the entries, and all of it is on the disk
pub record Keeps {D : Type 0} (state : D → State) (images : D → List ℕ → Type 0) (keep : Keep D) (es : List (ℕ × Entry)) : Type 0 where
  pub stands : StandsFor (state keep.disk).reads es
  pub gate : keep.gate ≡ length (front es)
  pub settled : Only (state keep.disk).reads (images keep.disk)
  pub synced : (state keep.disk).synced ≡ (state keep.disk).reads
