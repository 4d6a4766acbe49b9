use Rattle.std.proofs.Common.{arith, reverse}
use Rattle.pr_story.proofs.Withholding.{node_more, nodes_all}
use Rattle.pr_story.proofs.plain.withheld.dark_between.Goals as goal

pub loop-n-preserved : goal.loop-n-preserved
loop-n-preserved c =
    node_more c.args.node (reverse c.args.entries.now) c.args.from.now c.args.to.now c.loop-n.n c.loop-n.dark c.in_ok-here.here c.in_ok-dark.dark
    c.loop-n.invariant c.in_ok-here.ensures c.in_ok-dark.ensures

pub returns : goal.returns
returns c =
    nodes_all c.args.node (reverse c.args.entries.now) c.args.from.now c.args.to.now c.loop-n.n c.loop-n.dark c.at.ensures.range.nodes
    (omega (arith, c.loop-n-test.false)) c.loop-n.invariant
