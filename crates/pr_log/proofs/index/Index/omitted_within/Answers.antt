use Rattle.pr_log.proofs.Many.{alone_within}
use Rattle.pr_log.proofs.index.Index.omitted_within.Goals as goal

pub returns-in-Some : goal.returns-in-Some
returns-in-Some c = alone_within c.omitted_alone.result c.args.most c.args.self.now c.args.from.now c.args.to.now c.args.sub.now c.in-Some.node c.omitted_alone.ensures.by_stamp c.in-Some.ensures.alone c.in-Some.ensures.up_to c.omitted_alone.ensures.set
