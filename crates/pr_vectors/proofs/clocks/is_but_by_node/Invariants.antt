use Rattle.std.proofs.Common.{◌≡◌, ℕ, ◌<◌}
use Rattle.pr_vectors.specs.Vector.{clock_of}
use Rattle.pr_vectors.specs.Packed.{vector_in}
use Rattle.pr_vectors.proofs.clocks.is_but_by_node.Given as goal

-- all nodes so far have the same clocks, but for the one
abbrev pub invariant-loop-n : goal.invariant-loop-n
invariant-loop-n l = (k : ℕ) → k < l.n → (k ≡ l.node → ⊥) → clock_of (vector_in l.clocks) k ≡ clock_of (vector_in l.others) k
