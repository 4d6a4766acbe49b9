use Rattle.std.proofs.Common.{◌≡◌, take, reverse}
use Rattle.pr_story.specs.History.{current_vector}
use Rattle.pr_story.proofs.NewestFirst.{with_more, with_all}
use Rattle.pr_story.proofs.plain.vectors.current_vector.Goals as goal

pub loop-entry-preserved : goal.loop-entry-preserved
loop-entry-preserved c =
    with_more (λ h. c.vector_after-vector.result ≡ current_vector h) _ _ c.entry-item.result c.loop-entry-test.true c.entry-item.is
    (c.vector_after-vector.ensures (reverse (take c.loop-entry.entry-index c.args.entries.now)) c.loop-entry.invariant)

pub returns : goal.returns
returns c = with_all (λ h. c.loop-entry.vector ≡ current_vector h) _ _ c.loop-entry-test.false c.loop-entry.invariant
