use Rattle.std.proofs.Common.{◌≡◌, ◌≤◌, ◌+◌, ◌-◌, [], ◌++◌, drop, length}
use Rattle.pr_sets.proofs.Parts.{shared_of}
use Rattle.pr_sets.proofs.meeting.meets.Given as goal

abbrev pub invariant-loop-i : goal.invariant-loop-i
invariant-loop-i l = record {
  left : l.i ≤ length l.a;
  right : l.j ≤ length l.b;
  told : [] ++ shared_of (drop l.i l.a) (drop l.j l.b) ≡ shared_of l.a l.b;
}

abbrev pub decreases-loop-i : goal.decreases-loop-i
decreases-loop-i l = length l.a - l.i + (length l.b - l.j)
