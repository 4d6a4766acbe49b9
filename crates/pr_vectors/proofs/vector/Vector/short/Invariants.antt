use Rattle.std.proofs.Common.{◌≡◌, ℕ, ◌<◌, get_or, length}
use Rattle.pr_vectors.proofs.vector.Vector.short.Given as goal

abbrev pub invariant-loop-n : goal.invariant-loop-n
invariant-loop-n l = record {
  len : length l.short ≡ 32;
  each : (k : ℕ) → k < l.n → get_or l.short k 0 ≡ get_or l.self-inside.clocks k 0;
}
