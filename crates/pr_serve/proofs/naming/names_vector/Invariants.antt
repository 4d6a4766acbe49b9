use Rattle.std.proofs.Common.{◌≡◌, ℕ, ◌<◌, ◌≤◌}
use Rattle.pr_vectors.specs.Vector.{clock_of}
use Rattle.pr_serve.proofs.naming.names_vector.Given as goal

abbrev pub invariant-loop-node : goal.invariant-loop-node
invariant-loop-node l = (n : ℕ) → n < l.node → l.nodes ≤ n → clock_of l.vector n ≡ 0
