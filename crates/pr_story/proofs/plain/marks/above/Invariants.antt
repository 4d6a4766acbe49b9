use Rattle.std.specs.Prelude.{take}
use Rattle.pr_story.proofs.Marking.{AreAbove}
use Rattle.pr_story.proofs.plain.marks.above.Given as goal

abbrev pub invariant-loop-mark : goal.invariant-loop-mark
invariant-loop-mark l = AreAbove l.floor (take l.mark-index l.marks) l.kept
