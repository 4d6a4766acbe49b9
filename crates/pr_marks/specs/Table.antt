-- The table of marks: by name, and up to a floor.
use Rattle.std.specs.Prelude.{◌≡◌, ℕ, Bool, true, List, [], Option, None, Some, cond, map}
use Rattle.std.specs.Option.{option_map}
use Rattle.std.specs.Map.{lookup}
use Rattle.std.specs.Str.{bytes_eq}
use Rattle.pr_stamps.specs.declared.mark.Mark.{Mark}
use Rattle.pr_vectors.specs.Vector.{join_of, is_covered}
use Rattle.pr_names.specs.Order.{name_lt}
use Rattle.pr_stamps.specs.declared.newest.Newest.{Newest}
use Rattle.pr_marks.specs.Row.{Kept, above_floor, with_mark}
use Rattle.pr_stamps.specs.Marks.{later}

-- the names with what is kept of each, the floor, and whether a call was refused memory
pub record Table : Type 0 where
  pub rows : List (List ℕ × Kept)
  pub floor : List ℕ
  pub spent : Bool

abbrev pub row_of : Table → List ℕ → Option Kept
row_of t o = lookup (bytes_eq o) t.rows

-- the newest known stamp of a name, and whether that write deletes
abbrev pub newest_of : Table → List ℕ → Option Newest
newest_of t o = option_map (λ (k : Kept). k.newest) (row_of t o)

abbrev pub marks_in : Option Kept → List Mark
marks_in None = []
marks_in (Some k) = k.marks

-- the marks of a name that the floor does not cover, in the order of their stamps
abbrev pub marks_of : Table → List ℕ → List Mark
marks_of t o = marks_in (row_of t o)

-- the names that have a newest known stamp, in order
abbrev pub names_of : Table → List (List ℕ)
names_of t = map (λ (r : List ℕ × Kept). r.0) t.rows

-- the name comes after this one, if there is one
abbrev pub is_after : Option (List ℕ) → List ℕ → Bool
is_after None o = true
is_after (Some a) o = name_lt a o

abbrev pub raised_to : Option Newest → Newest → Newest
raised_to None n = n
raised_to (Some m) n = later m n

-- a later stamp of the name is known
pub record IsRaised (a b : Table) (name : List ℕ) (to : Newest) : Type 0 where
  pub floor : b.floor ≡ a.floor
  pub newest : (o : List ℕ) → newest_of b o ≡ cond (bytes_eq name o) (Some (raised_to (newest_of a name) to)) (newest_of a o)
  pub marks : (o : List ℕ) → marks_of b o ≡ marks_of a o

-- a write's mark is known: its stamp too, and it is kept where the floor does not cover it
pub record IsMarked (a b : Table) (name : List ℕ) (mark : Mark) (gone : Bool) : Type 0 where
  pub floor : b.floor ≡ a.floor
  pub newest : (o : List ℕ) → newest_of b o ≡ cond (bytes_eq name o) (Some (raised_to (newest_of a name) (record { stamp = mark.stamp; gone = gone }))) (newest_of a o)
  pub marks : (o : List ℕ) → marks_of b o ≡ cond (bytes_eq name o) (cond (is_covered a.floor mark.stamp) (marks_of a name) (with_mark (marks_of a name) mark)) (marks_of a o)

-- the floor is raised, and the marks that it covers are forgotten
pub record IsForgotten (a b : Table) (by : List ℕ) : Type 0 where
  pub floor : b.floor ≡ join_of a.floor by
  pub newest : (o : List ℕ) → newest_of b o ≡ newest_of a o
  pub marks : (o : List ℕ) → marks_of b o ≡ above_floor by (marks_of a o)
