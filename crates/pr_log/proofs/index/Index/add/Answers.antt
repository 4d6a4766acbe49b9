use Rattle.std.proofs.Common.{arith}
use Rattle.pr_log.proofs.Counts.{few_added}
use Rattle.pr_log.proofs.index.Index.add.Goals as goal

pub returns-clause-few : goal.returns-clause-few
returns-clause-few c = rw (← c.self.view_is) (few_added c.add.result c.self.inside.rows.items c.node-node.result c.index_mut.result.now c.add.new.self (omega (arith, c.self.invariant.0, c.node-node.ensures.node, c.node-node.ensures.range.known_node)) c.index_mut.ensures.value c.add.ensures.few)
