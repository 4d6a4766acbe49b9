-- The checkpoint of a gap list and a table of marks.
use Rattle.std.specs.Prelude.{◌≡◌, ◌≤◌, ◌++◌, ℕ, List, [], ◌∷◌, Option, None, Some, cond, length, IsTrue}
use Rattle.pr_names.specs.Span.{Span}
use Rattle.pr_sets.specs.Spans.{IsAllBut, has}
use Rattle.pr_gaps.specs.Gaps.{Told, IsLeastUntold, set_at}
use Rattle.pr_stamps.specs.declared.newest.Newest.{Newest}
use Rattle.pr_marks.specs.Table.{Table, marks_of, names_of, newest_of}
use Rattle.pr_names.specs.Order.{NamesRise}
use Rattle.pr_inval.specs.declared.row.Row.{Row}
use Rattle.pr_inval.specs.declared.kind.Kind.{Kind}
use Rattle.pr_inval.specs.declared.kind.Kind.TheVariants.{Precise, Imprecise, Checkpoint, Body}

-- the name is in a precise set
abbrev pub IsPreciseName : Told → List ℕ → Type 0
IsPreciseName g o = (i : ℕ) × (i ≤ length g.sets) × IsTrue (set_at g.sets i o) × IsLeastUntold g i None

-- a known name's newest stamp, the gone of that stamp, and its marks
abbrev pub row_with : Table → List ℕ → Option Newest → List Row
row_with m o None = []
row_with m o (Some n) = record { name = o; newest = n.stamp; gone = n.gone; marks = marks_of m o } ∷ []

-- the row of a name outside the target
abbrev pub row_in : Table → List Span → List ℕ → List Row
row_in m target o = cond (has target o) [] (row_with m o (newest_of m o))

abbrev pub rows_at : Table → List Span → List (List ℕ) → List Row
rows_at m target [] = []
rows_at m target (o ∷ os) = row_in m target o ++ rows_at m target os

-- the target lacks just those of the names that lie in precise sets; each known name outside it has one row, and the
-- rows are in the order of names
pub record IsCheckpointOf (g : Told) (m : Table) (sub : List Span) (to : List ℕ) (target : List Span) (by : List ℕ) (told : List Row) : Type 0 where
  pub vector : to ≡ g.vector
  pub names : IsAllBut target (λ o. IsTrue (has sub o) × IsPreciseName g o)
  pub floor : by ≡ m.floor
  pub rows : told ≡ rows_at m target (names_of m)
  pub order : NamesRise (names_of m)

abbrev pub IsBuilt : Told → Table → List Span → Kind → Type 0
IsBuilt g m sub (Precise from to write) = ⊥
IsBuilt g m sub (Imprecise from to target) = ⊥
IsBuilt g m sub (Checkpoint to target floor rows) = IsCheckpointOf g m sub to target floor rows
IsBuilt g m sub (Body name stamp bytes) = ⊥
