use Rattle.std.proofs.Common.{All, take}
use Rattle.pr_stamps.specs.declared.mark.Mark.{Mark}
use Rattle.pr_stamps.specs.Point.{IsStamp}
use Rattle.pr_story.specs.Ranges.{IsStampOrNone}
use Rattle.pr_node.proofs.ranges.marks_in_range.Given as goal

abbrev pub invariant-loop-mark : goal.invariant-loop-mark
invariant-loop-mark l = All (λ (mark : Mark). IsStamp mark.stamp × IsStampOrNone mark.prev) (take l.mark-index l.marks)
