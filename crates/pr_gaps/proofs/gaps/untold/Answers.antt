use Rattle.std.proofs.Common.{arith, ◌<◌}
use Rattle.pr_gaps.specs.Gaps.{IsToldIn}
use Rattle.pr_vectors.specs.Vector.{clock_of}
use Rattle.pr_gaps.proofs.Least.{node_some, node_none, some_is, is_stamp}
use Rattle.pr_gaps.proofs.gaps.untold.Goals as goal

pub returns-then-clock-at : goal.returns-then-clock-at
returns-then-clock-at c =
    node_some (IsToldIn c.args.own c.args.vector.now c.args.row.now) c.args.vector.now c.args.node c.precise_clock-clock.result c.new.result c.precise_clock-clock.ensures.value less
    (some_is c.new.result _ (c.new.ensures.some.1 (is_stamp c.precise_clock-clock.result c.args.node c.args.vector.now less c.at.ensures.range c.requires)) c.new.ensures.value)
  where
    less : c.precise_clock-clock.result < clock_of c.args.vector.now c.args.node
    less = omega (arith, c.at.ensures.value)

pub returns-else-clock-at : goal.returns-else-clock-at
returns-else-clock-at c = node_none (IsToldIn c.args.own c.args.vector.now c.args.row.now) c.args.vector.now c.args.node c.precise_clock-clock.result c.precise_clock-clock.ensures.value (omega (arith, c.at.ensures.value))
