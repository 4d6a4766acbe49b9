use Rattle.std.proofs.Common.{take, reverse}
use Rattle.pr_story.specs.Search.{IsKnownAt}
use Rattle.pr_story.proofs.NewestFirst.{with_more, with_all}
use Rattle.pr_story.proofs.plain.writes.known_write.Goals as goal

pub loop-entry-preserved : goal.loop-entry-preserved
loop-entry-preserved c =
    with_more (λ h. IsKnownAt h c.args.stamp.now c.known_after-known.result) _ _ c.entry-item.result c.loop-entry-test.true c.entry-item.is
    (c.known_after-known.ensures (reverse (take c.loop-entry.entry-index c.args.entries.now)) c.loop-entry.invariant)

pub returns : goal.returns
returns c = with_all (λ h. IsKnownAt h c.args.stamp.now c.loop-entry.known) _ _ c.loop-entry-test.false c.loop-entry.invariant
