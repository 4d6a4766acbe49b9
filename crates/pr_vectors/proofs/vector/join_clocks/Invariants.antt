use Rattle.std.proofs.Common.{◌≡◌, ℕ, ◌<◌, ◌≤◌, get_or, length}
use Rattle.std.specs.Prelude.{max}
use Rattle.pr_vectors.proofs.vector.join_clocks.Given as goal

abbrev pub invariant-loop-n : goal.invariant-loop-n
invariant-loop-n l = record {
  len : length l.clocks ≡ 32;
  done : (k : ℕ) → k < l.n → get_or l.clocks k 0 ≡ max (get_or l.initial.clocks k 0) (get_or l.other k 0);
  rest : (k : ℕ) → l.n ≤ k → get_or l.clocks k 0 ≡ get_or l.initial.clocks k 0;
}
