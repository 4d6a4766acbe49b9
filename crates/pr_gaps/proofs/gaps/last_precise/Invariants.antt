use Rattle.std.proofs.Common.{◌≡◌, ℕ, ◌<◌, ◌≤◌}
use Rattle.pr_vectors.specs.Vector.{clock_of}
use Rattle.pr_gaps.specs.Gaps.{IsToldIn}
use Rattle.pr_vectors.specs.UpTo.{IsLastClock}
use Rattle.pr_gaps.proofs.gaps.last_precise.Given as goal

abbrev pub invariant-loop-n : goal.invariant-loop-n
invariant-loop-n l = record {
  done : (w : ℕ) → w < l.n → IsLastClock (IsToldIn l.own l.vector l.row) l.vector w (clock_of l.precise w);
  rest : (w : ℕ) → w < 32 → l.n ≤ w → clock_of l.precise w ≡ 0;
}
