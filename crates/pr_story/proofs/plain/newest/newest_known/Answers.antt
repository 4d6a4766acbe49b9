use Rattle.std.proofs.Common.{take, reverse}
use Rattle.pr_story.specs.Search.{IsNewestOf}
use Rattle.pr_story.proofs.NewestFirst.{with_more, with_all}
use Rattle.pr_story.proofs.NewestNow.{newest_none, newest_more}
use Rattle.pr_story.proofs.plain.newest.newest_known.Goals as goal

pub loop-entry-init : goal.loop-entry-init
loop-entry-init c = newest_none c.args.name.now

pub loop-entry-preserved : goal.loop-entry-preserved
loop-entry-preserved c =
    with_more (λ h. IsNewestOf h c.args.name.now c.later-newest.result) _ _ c.entry-item.result c.loop-entry-test.true c.entry-item.is
    (newest_more c.entry-item.result (reverse (take c.loop-entry.entry-index c.args.entries.now)) c.args.name.now c.loop-entry.newest c.in_event-here.result c.later-newest.result
    c.later-newest.ensures c.loop-entry.invariant c.in_event-here.ensures)

pub returns : goal.returns
returns c = with_all (λ h. IsNewestOf h c.args.name.now c.loop-entry.newest) _ _ c.loop-entry-test.false c.loop-entry.invariant
