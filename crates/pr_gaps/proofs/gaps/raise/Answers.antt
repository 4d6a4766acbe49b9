use Rattle.pr_gaps.proofs.Least.{raised_zero, no_stamp}
use Rattle.pr_gaps.proofs.gaps.raise.Goals as goal

pub returns-in_default : goal.returns-in_default
returns-in_default c = raised_zero c.args.vector.now c.args.node c.args.clock c.at.ensures.range (no_stamp c.new.result c.args.clock c.args.node c.in_default.is c.new.ensures.some.1 c.requires.node c.requires.most)
