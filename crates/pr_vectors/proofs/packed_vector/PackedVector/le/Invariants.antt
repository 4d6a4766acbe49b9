use Rattle.std.proofs.Common.{ℕ, ◌<◌, ◌≤◌}
use Rattle.pr_vectors.specs.Vector.{clock_of}
use Rattle.pr_vectors.proofs.packed_vector.PackedVector.le.Given as goal

abbrev pub invariant-loop-n : goal.invariant-loop-n
invariant-loop-n l = record {
  each : (k : ℕ) → k < l.n → clock_of l.self k ≤ clock_of l.other k;
}
