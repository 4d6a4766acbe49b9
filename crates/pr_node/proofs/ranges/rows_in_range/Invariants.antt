use Rattle.std.proofs.Common.{All, take}
use Rattle.pr_story.specs.Ranges.{IsRow}
use Rattle.pr_node.proofs.ranges.rows_in_range.Given as goal

abbrev pub invariant-loop-row : goal.invariant-loop-row
invariant-loop-row l = All IsRow (take l.row-index l.rows)
