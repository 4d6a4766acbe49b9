use Rattle.std.proofs.Common.{◌≡◌, ℕ, ◌<◌, get_or, length}
use Rattle.pr_vectors.proofs.clocks.wide.Given as goal

abbrev pub invariant-loop-n : goal.invariant-loop-n
invariant-loop-n g l = record {
  len : length l.wide ≡ g.row.N;
  each : (k : ℕ) → k < l.n → get_or l.wide k 0 ≡ get_or l.short k 0;
}
