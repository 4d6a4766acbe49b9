use Rattle.std.proofs.Common.{◌≡◌, ◌++◌, map, take}
use Rattle.pr_stamps.specs.declared.mark.Mark.{Mark}
use Rattle.pr_marks.proofs.conflicts.add_pairs.Given as goal

abbrev pub invariant-loop-mark : goal.invariant-loop-mark
invariant-loop-mark l = l.pairs.items ≡ l.initial.pairs.items ++ map (λ (mark : Mark). (l.earlier.stamp, mark.stamp)) (take l.mark-index l.later)
