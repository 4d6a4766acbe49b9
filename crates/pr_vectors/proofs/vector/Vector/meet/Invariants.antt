use Rattle.std.proofs.Common.{◌≡◌, ℕ, ◌<◌, ◌≤◌, get_or, length}
use Rattle.std.specs.Prelude.{min}
use Rattle.pr_vectors.proofs.vector.Vector.meet.Given as goal

abbrev pub invariant-loop-n : goal.invariant-loop-n
invariant-loop-n l = record {
  len : length l.clocks ≡ 32;
  each : (k : ℕ) → k < l.n → get_or l.clocks k 0 ≡ min (get_or l.self k 0) (get_or l.other k 0);
  behind : (k : ℕ) → l.n ≤ k → k < 32 → get_or l.clocks k 0 ≡ 0;
}
