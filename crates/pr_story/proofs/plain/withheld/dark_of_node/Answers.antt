use Rattle.std.proofs.Common.{inl, arith, reverse}
use Rattle.pr_story.proofs.Withholding.{clock_more, clocks_all}
use Rattle.pr_story.proofs.plain.withheld.dark_of_node.Goals as goal

pub loop-before-preserved : goal.loop-before-preserved
loop-before-preserved c = (
  clock_more c.args.node (reverse c.args.entries.now) c.args.from.now c.args.n c.loop-before.before c.loop-before.dark c.in_ok-here.here c.in_ok-dark.dark
      c.loop-before.invariant.2 c.loop-before.invariant.0 c.in_ok-here.ensures c.in_ok-dark.ensures,
  inl (omega (arith, c.loop-before-test.true)),
  (let low = c.loop-before.invariant.2 in omega arith),
)

pub returns : goal.returns
returns c =
    clocks_all c.args.node (reverse c.args.entries.now) c.args.from.now c.args.to.now c.args.n c.loop-before.before c.at-most.result c.loop-before.dark
    c.at-most.ensures.value c.loop-before.invariant.1 (omega (arith, c.loop-before-test.false)) c.loop-before.invariant.0
