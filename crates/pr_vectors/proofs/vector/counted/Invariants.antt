use Rattle.std.proofs.Common.{◌≡◌, ℕ, ◌<◌, ◌≤◌, get_or}
use Rattle.pr_vectors.proofs.vector.counted.Given as goal

abbrev pub invariant-loop-n : goal.invariant-loop-n
invariant-loop-n l = record {
  behind : (k : ℕ) → l.n ≤ k → k < 32 → get_or l.clocks k 0 ≡ 0;
}
