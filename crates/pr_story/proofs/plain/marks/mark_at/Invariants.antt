use Rattle.std.proofs.Common.{◌≡◌, drop}
use Rattle.pr_story.specs.Knowledge.{mark_at}
use Rattle.pr_story.proofs.plain.marks.mark_at.Given as goal

abbrev pub invariant-loop-mark : goal.invariant-loop-mark
invariant-loop-mark l = mark_at l.marks l.stamp ≡ mark_at (drop l.mark-index l.marks) l.stamp
