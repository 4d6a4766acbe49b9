use Rattle.std.proofs.Common.{arith}
use Rattle.pr_log.proofs.Tails.{lit_before, lit_behind}
use Rattle.pr_log.proofs.segments.stands_with.Goals as goal

pub returns-then-tail-lo : goal.returns-then-tail-lo
returns-then-tail-lo c is o k name lo hi = lit_behind c.args.tail.now c.args.sets.now.entries c.args.target.now o k c.requires.before (omega (arith, c.if-tail-lo.true, lo)) (c.within.ensures.0 is o name)

pub returns : goal.returns
returns c is o k name lo hi = lit_before c.args.tail.now c.args.sets.now.entries c.args.target.now o k (omega (arith, c.if-tail-hi.false, hi)) (c.stands_within.ensures is o k name lo hi)
