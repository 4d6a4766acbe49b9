use Rattle.std.proofs.Common.{◌≡◌, ℕ, ◌<◌, ◌≤◌, get_or, length}
use Rattle.pr_vectors.proofs.vector.Vector.of_few.Given as goal

abbrev pub invariant-loop-n : goal.invariant-loop-n
invariant-loop-n l = record {
  len : length l.clocks ≡ 32;
  front : (k : ℕ) → k < l.n → get_or l.clocks k 0 ≡ get_or l.few k 0;
  behind : (k : ℕ) → l.n ≤ k → k < 32 → get_or l.clocks k 0 ≡ 0;
}
