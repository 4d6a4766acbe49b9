use Rattle.std.proofs.Common.{◌≡◌, ℕ, length, get_or}
use Rattle.pr_gaps.specs.Ranges.{no_clocks}
use Rattle.pr_gaps.proofs.row.Row.new.Given as goal

abbrev pub invariant-loop : goal.invariant-loop
invariant-loop l = record {
  len : length l.clocks.items ≡ l.counter;
  none : (k : ℕ) → get_or l.clocks.items k no_clocks ≡ no_clocks;
}
