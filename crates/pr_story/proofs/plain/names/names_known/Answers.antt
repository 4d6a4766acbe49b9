use Rattle.std.proofs.Common.{take, reverse}
use Rattle.pr_story.specs.Sending.{IsNamedList}
use Rattle.pr_story.proofs.NewestFirst.{with_more, with_all}
use Rattle.pr_story.proofs.Sendings.{named_more}
use Rattle.pr_story.proofs.plain.names.names_known.Goals as goal

pub loop-entry-preserved : goal.loop-entry-preserved
loop-entry-preserved c =
    with_more (λ h. IsNamedList h c.add_event.new.names) _ _ c.entry-item.result c.loop-entry-test.true c.entry-item.is
    (named_more (reverse (take c.loop-entry.entry-index c.args.entries.now)) c.entry-item.result c.loop-entry.names c.add_event.new.names c.in_ok-add_event.ensures c.loop-entry.invariant)

pub returns : goal.returns
returns c = with_all (λ h. IsNamedList h c.loop-entry.names) _ _ c.loop-entry-test.false c.loop-entry.invariant
