use Rattle.std.proofs.Common.{◌≡◌, ℕ, ◌≤◌, ◌<◌, [], length, get_or}
use Rattle.pr_gaps.specs.Gaps.{IsTargeted}
use Rattle.pr_gaps.proofs.gaps.cover_rows.Given as goal

abbrev pub invariant-loop-index : goal.invariant-loop-index
invariant-loop-index l = record {
  len : length l.rows.items ≡ length l.initial.rows.items;
  done : (i : ℕ) → i < l.index → IsTargeted l.from l.to l.target l.sets l.rest i (get_or l.rows.items i []) (get_or l.initial.rows.items i []);
  rest : (i : ℕ) → l.index ≤ i → get_or l.rows.items i [] ≡ get_or l.initial.rows.items i [];
}
