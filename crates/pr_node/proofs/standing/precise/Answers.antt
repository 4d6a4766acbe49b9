use Rattle.pr_node.proofs.States.{one_more, all_found}
use Rattle.pr_node.proofs.standing.precise.Goals as goal

pub loop-index-preserved : goal.loop-index-preserved
loop-index-preserved c = one_more c.args.gaps.now c.loop-index.index _ _ _ c.in_ok-push.ensures.ok c.last_precise.ensures.value c.last_precise.ensures.range c.loop-index.invariant

pub returns-clause-value : goal.returns-clause-value
returns-clause-value c = all_found c.args.gaps.now c.loop-index.index c.sets-index-end.result _ c.sets-index-end.ensures c.loop-index-test.false c.loop-index.auto.index-end c.loop-index.invariant
