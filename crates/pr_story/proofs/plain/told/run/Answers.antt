use Rattle.std.proofs.Common.{arith, reverse}
use Rattle.pr_sets.specs.Spans.{has}
use Rattle.pr_story.specs.Told.{IsTold}
use Rattle.pr_story.proofs.Points.{run_more, run_all}
use Rattle.pr_story.proofs.plain.told.run.Goals as goal

pub loop-before-preserved : goal.loop-before-preserved
loop-before-preserved c =
    run_more (IsTold c.args.node (reverse c.args.entries.now) (has c.args.set.now)) c.args.vector.now c.args.n c.loop-before.before c.loop-before.invariant
    (omega (arith, c.loop-before-test.true, c.at-most.ensures.value)) c.in-None.ensures

pub returns-clause-run : goal.returns-clause-run
returns-clause-run c =
    run_all (IsTold c.args.node (reverse c.args.entries.now) (has c.args.set.now)) c.args.vector.now c.args.n c.loop-before.before c.at-most.result c.loop-before.invariant
    c.at-most.ensures.value (omega (arith, c.loop-before-test.false))
