-- Up to where a test holds of the points that a vector covers.
use Rattle.std.specs.Prelude.{ℕ, List, ◌≤◌, ◌<◌, ◌+◌}
use Rattle.pr_stamps.specs.Point.{Point}
use Rattle.pr_vectors.specs.Vector.{clock_of}

-- the greatest clock of the node, at most the vector's, up to which each point is T
abbrev pub IsLastClock : (Point → Type 0) → List ℕ → ℕ → ℕ → Type 0
IsLastClock T v n most =
    (most ≤ clock_of v n)
    × ((c : ℕ) → 1 ≤ c → c ≤ most → T (record { clock = c; node = n }))
    × (most < clock_of v n → ¬ T (record { clock = most + 1; node = n }))
