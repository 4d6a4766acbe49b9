use Rattle.std.proofs.Common.{◌≡◌, ℕ, ◌<◌, get_or, length}
use Rattle.pr_vectors.proofs.vector.Vector.near.Given as goal

abbrev pub invariant-loop-n : goal.invariant-loop-n
invariant-loop-n l = record {
  len : length l.near ≡ 32;
  each : (k : ℕ) → k < l.n → get_or l.near k 0 ≡ get_or l.self-inside.clocks k 0;
}
