use Rattle.std.proofs.Common.{◌-◌, length}
use Rattle.pr_marks.proofs.Listed.{IsForgetting}
use Rattle.pr_marks.proofs.marked.forget.Given as goal

abbrev pub invariant-loop-at : goal.invariant-loop-at
invariant-loop-at l = IsForgetting l.floor l.initial.rows.entries l.rows.entries l.at l.marked.items

abbrev pub decreases-loop-at : goal.decreases-loop-at
decreases-loop-at l = length l.marked.items - l.at
