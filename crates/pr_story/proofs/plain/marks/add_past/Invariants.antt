use Rattle.std.proofs.Common.{◌≡◌, ◌++◌, drop}
use Rattle.pr_story.specs.Marking.{marks_past}
use Rattle.pr_story.proofs.plain.marks.add_past.Given as goal

abbrev pub invariant-loop-mark : goal.invariant-loop-mark
invariant-loop-mark l = l.list ++ marks_past (drop l.mark-index l.marks) l.stamp ≡ l.initial.list ++ marks_past l.marks l.stamp
