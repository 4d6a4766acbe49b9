use Rattle.std.proofs.Common.{◌≡◌, drop, false}
use Rattle.pr_snap.proofs.Turns.{ToMark}
use Rattle.pr_snap.proofs.applying.add_marks.Given as goal

abbrev pub invariant-loop-mark : goal.invariant-loop-mark
invariant-loop-mark l = record {
  marked : ToMark l.initial.marks l.marks l.name l.added (drop l.mark-index l.added);
  works : l.initial.marks.spent ≡ false → l.marks.spent ≡ false;
}
