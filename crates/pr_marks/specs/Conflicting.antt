-- The marks that conflict with an earlier one, listed beside all.
use Rattle.std.specs.Prelude.{◌≡◌, ◌<◌, ℕ, List, Contains, false, true, length, slice_index_or}
use Rattle.pr_stamps.specs.Marks.{is_conflict}
use Rattle.pr_stamps.specs.Point.{Point}
use Rattle.pr_stamps.specs.declared.mark.Mark.{Mark}
use Rattle.pr_marks.specs.Row.{Rises}

-- one of the marks has the stamp
abbrev pub HasStamp : List Mark → Point → Type 0
HasStamp marks s = (k : ℕ) × (k < length marks) × ((d : Mark) → (slice_index_or marks k d).stamp ≡ s)

-- the list rises, and has the stamp of each mark that conflicts with an earlier one
pub record ListsConflicts (marks listed : List Mark) : Type 0 where
  pub rise : Rises listed
  pub each : (x y : Mark) → Contains marks x → Contains marks y → is_conflict x y ≡ true → HasStamp listed y.stamp

-- no mark conflicts with this later one
abbrev pub IsFree : List Mark → Mark → Type 0
IsFree marks y = (x : Mark) → Contains marks x → is_conflict x y ≡ false
