use Rattle.std.proofs.Common.{◌≡◌, ◌++◌, drop}
use Rattle.pr_story.specs.Marking.{marks_below}
use Rattle.pr_story.proofs.plain.marks.add_below.Given as goal

abbrev pub invariant-loop-mark : goal.invariant-loop-mark
invariant-loop-mark l = l.list ++ marks_below (drop l.mark-index l.marks) l.stamp ≡ l.initial.list ++ marks_below l.marks l.stamp
