use Rattle.std.specs.Prelude.{take}
use Rattle.pr_node.specs.Taking.{AreSettled}
use Rattle.pr_node.proofs.taking.settle_rows.Given as goal

abbrev pub invariant-loop-row : goal.invariant-loop-row
invariant-loop-row l = AreSettled l.initial.bodies l.bodies (take l.row-index l.fn.rows)
