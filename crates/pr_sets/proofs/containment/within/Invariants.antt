use Rattle.std.proofs.Common.{◌≤◌, ◌+◌, ◌-◌, drop, length}
use Rattle.std.specs.Prelude.{◌↔◌}
use Rattle.pr_sets.specs.Spans.{Within, has}
use Rattle.pr_sets.proofs.containment.within.Given as goal

abbrev pub invariant-loop-i : goal.invariant-loop-i
invariant-loop-i l = record {
  left : l.i ≤ length l.a;
  right : l.j ≤ length l.b;
  told : Within (has (drop l.i l.a)) (has (drop l.j l.b)) ↔ Within (has l.a) (has l.b);
}

abbrev pub decreases-loop-i : goal.decreases-loop-i
decreases-loop-i l = length l.a - l.i + (length l.b - l.j)
