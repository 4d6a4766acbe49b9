use Rattle.std.proofs.Common.{arith}
use Rattle.pr_gaps.specs.Ranges.{end_at}
use Rattle.pr_gaps.proofs.Joined.{far_before}
use Rattle.pr_gaps.proofs.ranges.touching.Goals as goal

pub overflow_add-end : goal.overflow_add-end
overflow_add-end c = omega (arith, (c.requires.apart.some c.in_ok-start.start c.in_ok-start.end c.in_ok-start.ensures.range).1.1)

pub returns-else-lo-end-clause-none : goal.returns-else-lo-end-clause-none
returns-else-lo-end-clause-none c = far_before (end_at c.args.ends.now.entries) c.args.lo c.args.hi c.in_ok-start.start c.in_ok-start.end c.requires.apart c.in_ok-start.ensures.range (omega arith) c.in_ok-start.ensures.last
