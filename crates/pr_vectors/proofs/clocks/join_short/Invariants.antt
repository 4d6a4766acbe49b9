use Rattle.std.proofs.Common.{◌≡◌, ℕ, ◌<◌, ◌≤◌, get_or, length}
use Rattle.std.specs.Prelude.{max}
use Rattle.pr_vectors.proofs.clocks.join_short.Given as goal

abbrev pub invariant-loop-n : goal.invariant-loop-n
invariant-loop-n l = record {
  len : length l.others ≡ 32;
  done : (k : ℕ) → k < l.n → get_or l.others k 0 ≡ max (get_or l.initial.others k 0) (get_or l.clocks k 0);
  rest : (k : ℕ) → l.n ≤ k → get_or l.others k 0 ≡ get_or l.initial.others k 0;
}
