use Rattle.std.proofs.Common.{ℕ, ◌<◌, ◌≤◌, get_or}
use Rattle.pr_vectors.proofs.vector.Vector.le.Given as goal

abbrev pub invariant-loop-n : goal.invariant-loop-n
invariant-loop-n l = record {
  each : (k : ℕ) → k < l.n → get_or l.self k 0 ≤ get_or l.other k 0;
}
