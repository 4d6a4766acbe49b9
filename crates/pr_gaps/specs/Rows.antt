-- The points that were told for one set, as the clocks of each node.
use Rattle.std.specs.Prelude.{◌⊎◌, ◌↔◌, ◌<◌, ℕ, List, slice_index_or}
use Rattle.pr_stamps.specs.Point.{Point}
use Rattle.pr_vectors.specs.Vector.{Between}
use Rattle.pr_gaps.specs.Ranges.{HasClock, Run, no_clocks}

abbrev pub clocks_at : List Run → ℕ → Run
clocks_at row n = slice_index_or row n no_clocks

-- the point was told
abbrev pub HasPoint : List Run → Point → Type 0
HasPoint row p = HasClock (clocks_at row p.node) p.clock

-- the points between the vectors are told too
abbrev pub IsRowCovered : List Run → List Run → List ℕ → List ℕ → Type 0
IsRowCovered a b from to = (p : Point) → p.node < 32 → HasPoint b p ↔ (HasPoint a p ⊎ Between from to p)
