use Rattle.std.specs.Prelude.{take}
use Rattle.pr_story.specs.Knowledge.{mark_at}
use Rattle.pr_story.specs.Marking.{IsMarkedBy}
use Rattle.pr_story.proofs.plain.marks.with_marks.Given as goal

abbrev pub invariant-loop-mark : goal.invariant-loop-mark
invariant-loop-mark l = IsMarkedBy l.fn.marks (mark_at (take l.mark-index l.told)) l.more
