use Rattle.std.proofs.Common.{arith}
use Rattle.pr_snap.proofs.Targets.{IsPreciseAt, below_more, if_precise_part}
use Rattle.pr_snap.proofs.building.precise_part.Goals as goal

pub loop-index-preserved : goal.loop-index-preserved
loop-index-preserved c o name = below_more (IsPreciseAt c.args.gaps.now o) c.loop-index.index _ _ (c.loop-index.invariant o name) (c.in_ok-precise.ensures o name)

pub returns : goal.returns
returns c = if_precise_part c.args.gaps.now c.args.sub.now c.loop-index.precise c.loop-index.index c.intersect.result (omega (arith, c.sets-index-end.ensures, c.loop-index-test.false, c.loop-index.auto.index-end)) c.loop-index.invariant c.intersect.ensures
