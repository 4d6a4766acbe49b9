use Rattle.std.specs.Prelude.{take}
use Rattle.pr_story.specs.Knowledge.{mark_in_rows}
use Rattle.pr_story.specs.Marking.{IsMarkedBy}
use Rattle.pr_story.proofs.plain.marks.with_rows.Given as goal

abbrev pub invariant-loop-row : goal.invariant-loop-row
invariant-loop-row l = IsMarkedBy l.fn.marks (mark_in_rows (take l.row-index l.rows) l.name) l.more
