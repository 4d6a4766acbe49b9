use Rattle.pr_log.specs.Sets.{is_gathered}
use Rattle.pr_log.proofs.Omitted.{omit_end}
use Rattle.pr_log.proofs.index.Index.omit_each.Goals as goal

pub returns : goal.returns
returns c o name = omit_end c.args.self.now c.args.sub.now c.args.writer c.args.from c.loop-write.clock c.args.to o (is_gathered c.loop-write.names o) (is_gathered c.args.names.now o) c.loop-write.invariant.from c.in_default.ensures.none (c.loop-write.invariant.names o name) c.loop-write.invariant.within
