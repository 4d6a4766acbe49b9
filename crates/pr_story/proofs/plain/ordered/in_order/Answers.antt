use Rattle.std.proofs.Common.{take}
use Rattle.pr_story.specs.Marking.{AreInOrder}
use Rattle.pr_story.proofs.NewestFirst.{with_next}
use Rattle.pr_story.proofs.Snapshots.{order_more}
use Rattle.pr_story.proofs.plain.ordered.in_order.Goals as goal

pub loop-name-preserved : goal.loop-name-preserved
loop-name-preserved c =
    with_next (λ names. AreInOrder names c.in_ok-ordered.ordered) _ _ c.name-item.result c.loop-name-test.true c.name-item.is
    (order_more (take c.loop-name.name-index c.args.names.now) c.loop-name.ordered c.in_ok-ordered.ordered c.name-item.result c.in_ok-ordered.ensures.rise c.in_ok-ordered.ensures.same c.loop-name.invariant)
