use Rattle.std.proofs.Common.{ℕ, ◌≤◌, ◌<◌}
use Rattle.pr_vectors.specs.Vector.{clock_of}
use Rattle.pr_vectors.proofs.clocked.VectorClocked.next_above.Given as goal

-- the vector is above the other at none of the nodes so far
abbrev pub invariant-loop-n : goal.invariant-loop-n
invariant-loop-n l = (k : ℕ) → l.start ≤ k → k < l.n → clock_of l.self k ≤ clock_of l.other k
