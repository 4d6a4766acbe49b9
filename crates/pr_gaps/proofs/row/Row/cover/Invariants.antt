use Rattle.std.proofs.Common.{◌≡◌, ℕ, ◌≤◌, ◌<◌, length, get_or}
use Rattle.pr_gaps.proofs.Covered.{IsNodeCovered}
use Rattle.pr_gaps.specs.Ranges.{no_clocks}
use Rattle.pr_gaps.proofs.row.Row.cover.Given as goal

abbrev pub invariant-loop-n : goal.invariant-loop-n
invariant-loop-n l = record {
  len : length l.self-inside.clocks.items ≡ 32;
  done : (k : ℕ) → k < l.n → IsNodeCovered l.from l.to k (get_or l.self-inside.clocks.items k no_clocks) (get_or l.initial.self-inside.clocks.items k no_clocks);
  rest : (k : ℕ) → l.n ≤ k → get_or l.self-inside.clocks.items k no_clocks ≡ get_or l.initial.self-inside.clocks.items k no_clocks;
}
