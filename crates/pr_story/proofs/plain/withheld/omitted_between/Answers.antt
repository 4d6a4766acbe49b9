use Rattle.std.proofs.Common.{take, reverse}
use Rattle.pr_story.proofs.NewestFirst.{with_more, with_all}
use Rattle.pr_story.proofs.Withholding.{AreOmitted, omitted_more, omitted_all}
use Rattle.pr_story.proofs.plain.withheld.omitted_between.Goals as goal

pub loop-entry-preserved : goal.loop-entry-preserved
loop-entry-preserved c =
    with_more (λ h. AreOmitted (reverse c.args.entries.now) h c.args.names.now c.args.from.now c.args.to.now c.in_ok-omitted.omitted) _ _ c.entry-item.result c.loop-entry-test.true c.entry-item.is
    (omitted_more (reverse c.args.entries.now) (reverse (take c.loop-entry.entry-index c.args.entries.now)) c.entry-item.result c.args.names.now c.args.from.now c.args.to.now
    c.loop-entry.omitted c.in_ok-omitted.omitted c.omitted_name-name.result c.omitted_name-name.ensures c.in_ok-omitted.ensures c.loop-entry.invariant)

pub returns : goal.returns
returns c =
    omitted_all (reverse c.args.entries.now) c.args.names.now c.args.from.now c.args.to.now c.loop-entry.omitted
    (with_all (λ h. AreOmitted (reverse c.args.entries.now) h c.args.names.now c.args.from.now c.args.to.now c.loop-entry.omitted) _ _ c.loop-entry-test.false c.loop-entry.invariant)
