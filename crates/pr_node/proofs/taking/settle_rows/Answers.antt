use Rattle.pr_node.proofs.Applied.{settled_more}
use Rattle.pr_node.proofs.taking.settle_rows.Goals as goal

pub loop-row-preserved : goal.loop-row-preserved
loop-row-preserved c = settled_more c.args.bodies.now c.loop-row.bodies c.settle.new.self c.args.rows.now c.loop-row.row-index c.row-item.result c.loop-row-test.true c.row-item.is c.loop-row.invariant c.settle.ensures.settled
