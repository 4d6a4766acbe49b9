use Rattle.std.proofs.Common.{◌≡◌, ℕ, ◌+◌, [], length, get_or}
use Rattle.pr_stamps.specs.Point.{Point}
use Rattle.pr_gaps.specs.Rows.{HasPoint}
use Rattle.pr_gaps.proofs.gaps.rows.Given as goal

abbrev pub invariant-loop : goal.invariant-loop
invariant-loop l = record {
  len : length l.rows.items ≡ l.counter + 1;
  none : (i : ℕ) (p : Point) → ¬ HasPoint (get_or l.rows.items i []) p;
}
