use Rattle.pr_top.proofs.LeftNode.{left_here, left_is, left_within}
use Rattle.pr_top.proofs.left.node_of.Goals as goal

pub take_node-requires : goal.take_node-requires
take_node-requires c = let r = c.requires in left_within r.0 r.1 c.args.run.engine c.args.run.unmet c.args.number r.2 r.3

pub unreachable-requires : goal.unreachable-requires
unreachable-requires c = let r = c.requires in left_here r.0 r.1 c.args.run.engine c.args.run.unmet c.args.number r.2 r.3 c.in-None.ensures.was

pub returns : goal.returns
returns c = λ s h k known. left_is s h c.args.run.engine c.args.run.unmet c.args.number k known c.in-Some.node c.in-Some.ensures.was
