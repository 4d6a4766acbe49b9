use Rattle.std.proofs.Common.{take}
use Rattle.std.specs.List.{AllByRecursion}
use Rattle.pr_wire.specs.Messages.{HasFewMarks}
use Rattle.pr_wire.proofs.width.known_rows.Given as goal

abbrev pub invariant-loop-row : goal.invariant-loop-row
invariant-loop-row l = AllByRecursion HasFewMarks (take l.row-index l.rows)
