use Rattle.std.proofs.Common.{◌≡◌, drop, false}
use Rattle.pr_snap.proofs.Turns.{ToTake}
use Rattle.pr_snap.proofs.applying.add_rows.Given as goal

abbrev pub invariant-loop-row : goal.invariant-loop-row
invariant-loop-row l = record {
  taken : ToTake l.initial.marks l.marks l.rows (drop l.row-index l.rows);
  works : l.initial.marks.spent ≡ false → l.marks.spent ≡ false;
}
