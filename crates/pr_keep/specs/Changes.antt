-- What the functions on changes do.
use Rattle.std.specs.Prelude.{◌≡◌, ◌≤◌, ℕ, Bool, true, false, List, [], ◌∷◌, ◌++◌, length, take, drop}
use Rattle.pr_keep.specs.declared.change.Change.{Change}
use Rattle.pr_keep.specs.declared.change.Change.TheVariants.{Wrote, Synced}
use Rattle.pr_keep.specs.Disk.{written}

-- the newest change is a write
abbrev pub is_pending : List Change → Bool
is_pending [] = false
is_pending (Wrote at piece over ∷ changes) = true
is_pending (Synced ∷ changes) = false

-- the bytes came of a write over these, which held so many of them
pub record WasOver (bytes : List ℕ) (at : ℕ) (piece over old : List ℕ) : Type 0 where
  pub place : at ≤ length old
  pub over_is : over ≡ take (length piece) (drop at old)
  pub bytes_is : bytes ≡ written at piece old

-- the piece is written, and the change added at the end
pub record HasOverwritten (old new : List ℕ) (before now : List Change) (at : ℕ) (piece : List ℕ) : Type 0 where
  pub bytes : new ≡ written at piece old
  pub changes : now ≡ before ++ Wrote at piece (take (length piece) (drop at old)) ∷ []
