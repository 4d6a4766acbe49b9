-- What a checkpoint changes.
use Rattle.std.specs.Prelude.{◌≡◌, ℕ, List, [], ◌∷◌, Option, Some, false, cond}
use Rattle.std.specs.Str.{bytes_eq}
use Rattle.pr_stamps.specs.declared.mark.Mark.{Mark}
use Rattle.pr_names.specs.Span.{Span}
use Rattle.pr_vectors.specs.Vector.{join_of, zero_vector, is_covered}
use Rattle.pr_gaps.specs.Gaps.{Told, IsCovered}
use Rattle.pr_stamps.specs.declared.newest.Newest.{Newest}
use Rattle.pr_marks.specs.Row.{above_floor, with_mark}
use Rattle.pr_marks.specs.Table.{Table, marks_of, newest_of, raised_to}
use Rattle.pr_inval.specs.declared.row.Row.{Row}

-- ---- a name's newest stamp, once more is known

-- marks, of which none is a delete's
abbrev pub newest_by : List Mark → Option Newest → Option Newest
newest_by [] n = n
newest_by (x ∷ xs) n = newest_by xs (Some (raised_to n (record { stamp = x.stamp; gone = false })))

-- a row of the name: its newest stamp with its gone, and then its marks
abbrev pub newest_after : Row → Option Newest → Option Newest
newest_after row n = newest_by row.marks (Some (raised_to n (record { stamp = row.newest; gone = row.gone })))

-- the rows of this name among these
abbrev pub newest_among : List Row → List ℕ → Option Newest → Option Newest
newest_among [] o n = n
newest_among (row ∷ rows) o n = newest_among rows o (cond (bytes_eq row.name o) (newest_after row n) n)

-- ---- a name's marks

-- more marks, each in its place, where the floor does not cover it
abbrev pub marks_by : List ℕ → List Mark → List Mark → List Mark
marks_by floor [] marks = marks
marks_by floor (x ∷ xs) marks = marks_by floor xs (cond (is_covered floor x.stamp) marks (with_mark marks x))

-- the marks of the rows of this name
abbrev pub marks_among : List ℕ → List Row → List ℕ → List Mark → List Mark
marks_among floor [] o marks = marks
marks_among floor (row ∷ rows) o marks = marks_among floor rows o (cond (bytes_eq row.name o) (marks_by floor row.marks marks) marks)

-- ---- steps

-- marks of a name are added
pub record AreMarked (a b : Table) (name : List ℕ) (added : List Mark) : Type 0 where
  pub floor : b.floor ≡ a.floor
  pub newest : (o : List ℕ) → newest_of b o ≡ cond (bytes_eq name o) (newest_by added (newest_of a o)) (newest_of a o)
  pub marks : (o : List ℕ) → marks_of b o ≡ cond (bytes_eq name o) (marks_by a.floor added (marks_of a o)) (marks_of a o)

-- a row is taken
pub record IsRowTaken (a b : Table) (row : Row) : Type 0 where
  pub floor : b.floor ≡ a.floor
  pub newest : (o : List ℕ) → newest_of b o ≡ cond (bytes_eq row.name o) (newest_after row (newest_of a o)) (newest_of a o)
  pub marks : (o : List ℕ) → marks_of b o ≡ cond (bytes_eq row.name o) (marks_by a.floor row.marks (marks_of a o)) (marks_of a o)

-- rows are taken, one after the other
pub record AreRowsTaken (a b : Table) (rows : List Row) : Type 0 where
  pub floor : b.floor ≡ a.floor
  pub newest : (o : List ℕ) → newest_of b o ≡ newest_among rows o (newest_of a o)
  pub marks : (o : List ℕ) → marks_of b o ≡ marks_among a.floor rows o (marks_of a o)

-- the checkpoint is taken: its points are covered from zero, its rows are taken, and its floor is joined in, with the
-- marks forgotten that it covers
pub record IsApplied (g h : Told) (m n : Table) (to : List ℕ) (target : List Span) (by : List ℕ) (rows : List Row) : Type 0 where
  pub gaps : IsCovered g h zero_vector to target
  pub floor : n.floor ≡ join_of m.floor by
  pub newest : (o : List ℕ) → newest_of n o ≡ newest_among rows o (newest_of m o)
  pub marks : (o : List ℕ) → marks_of n o ≡ above_floor by (marks_among m.floor rows o (marks_of m o))
