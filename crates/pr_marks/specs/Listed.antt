-- The list of the names that have marks.
use Rattle.std.specs.Prelude.{◌≡◌, ◌<◌, ℕ, List, Contains, Option, cond, length}
use Rattle.std.specs.Map.{lookup}
use Rattle.std.specs.Option.{option_map}
use Rattle.std.specs.Str.{bytes_eq}
use Rattle.pr_stamps.specs.declared.mark.Mark.{Mark}
use Rattle.pr_stamps.specs.declared.newest.Newest.{Newest}
use Rattle.pr_marks.specs.Row.{Kept, above_floor}
use Rattle.pr_marks.specs.Table.{marks_in}

-- the newest stamp of a name among rows
abbrev pub newest_at : List (List ℕ × Kept) → List ℕ → Option Newest
newest_at rows o = option_map (λ (k : Kept). k.newest) (lookup (bytes_eq o) rows)

-- the marks of a name among rows
abbrev pub marks_at : List (List ℕ × Kept) → List ℕ → List Mark
marks_at rows o = marks_in (lookup (bytes_eq o) rows)

-- a name with these marks is listed, if there are any
abbrev pub IsListed : List (List ℕ) → List ℕ → List Mark → Type 0
IsListed marked o marks = 0 < length marks → Contains marked o

-- each name that has marks is listed
pub record AreListed (marked : List (List ℕ)) (rows : List (List ℕ × Kept)) : Type 0 where
  pub each : (o : List ℕ) → IsListed marked o (marks_at rows o)

-- of a name alone the marks are forgotten that the floor covers
pub record ForgetsOf (floor name : List ℕ) (a b : List (List ℕ × Kept)) : Type 0 where
  pub newest : (o : List ℕ) → newest_at b o ≡ newest_at a o
  pub marks : (o : List ℕ) → marks_at b o ≡ cond (bytes_eq name o) (above_floor floor (marks_at a o)) (marks_at a o)
