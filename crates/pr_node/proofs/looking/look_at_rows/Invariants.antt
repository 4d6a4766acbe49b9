use Rattle.std.proofs.Common.{take}
use Rattle.pr_node.specs.Scanning.{HasAwaited}
use Rattle.pr_story.specs.Sending.{row_names}
use Rattle.pr_node.proofs.looking.look_at_rows.Given as goal

abbrev pub invariant-loop-row : goal.invariant-loop-row
invariant-loop-row l = HasAwaited l.names (row_names (take l.row-index l.rows)) l.initial.scan l.scan
