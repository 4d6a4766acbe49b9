use Rattle.pr_gaps.proofs.Least.{clock_min, clock_none}
use Rattle.pr_gaps.proofs.gaps.precise_clock.Goals as goal

pub returns-then-most-eq0-clause-value : goal.returns-then-most-eq0-clause-value
returns-then-most-eq0-clause-value c = clock_none c.args.row.now c.args.own c.args.node c.at-most.result c.args.vector.now c.at-most.ensures.value c.if-most-eq0.true

pub returns-else-most-eq0-clause-value : goal.returns-else-most-eq0-clause-value
returns-else-most-eq0-clause-value c = clock_min c.args.row.now c.args.own c.args.node c.at-most.result c.run.result c.min.result c.args.vector.now c.min.ensures c.at-most.ensures.value c.if-node-own.false c.run.ensures.within c.run.ensures.end
