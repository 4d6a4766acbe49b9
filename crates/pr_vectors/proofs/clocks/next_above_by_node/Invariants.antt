use Rattle.std.proofs.Common.{ℕ, ◌≤◌, ◌<◌}
use Rattle.pr_vectors.specs.Vector.{clock_of}
use Rattle.pr_vectors.specs.Packed.{vector_in}
use Rattle.pr_vectors.proofs.clocks.next_above_by_node.Given as goal

-- the first is above the other at none of the nodes so far
abbrev pub invariant-loop-n : goal.invariant-loop-n
invariant-loop-n l = (k : ℕ) → l.start ≤ k → k < l.n → clock_of (vector_in l.clocks) k ≤ clock_of (vector_in l.others) k
