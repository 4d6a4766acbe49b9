use Rattle.std.proofs.Common.{arith}
use Rattle.pr_log.specs.Sets.{is_gathered}
use Rattle.pr_log.proofs.Omitted.{omitted_behind, set_of_omitted}
use Rattle.pr_log.proofs.index.Index.omitted.Goals as goal

pub returns : goal.returns
returns c = set_of_omitted c.union.result c.args.self.now c.args.from.now c.args.to.now c.args.sub.now (is_gathered c.loop-n.names) c.by_stamp.ensures c.union.ensures.set c.union.ensures.names
    (λ o name. omitted_behind c.args.self.now c.args.from.now c.args.to.now c.args.sub.now c.loop-n.n o (is_gathered c.loop-n.names o) (omega (arith, c.nodes-n-end.ensures.most))
    (λ k past. c.nodes-n-end.ensures.behind k (omega (arith, past)))
    (c.loop-n.invariant o name))
