use Rattle.std.proofs.Common.{◌≡◌, arith, take, reverse}
use Rattle.pr_story.specs.History.{current_vector}
use Rattle.pr_story.proofs.NewestFirst.{with_more, with_all}
use Rattle.pr_gen.proofs.summing.vector_of.Goals as goal

pub loop-place-preserved : goal.loop-place-preserved
loop-place-preserved c =
    with_more (λ h. c.vector_after-vector.result ≡ current_vector h) c.args.journal.now.items c.loop-place.place c.entry.result.now (omega (arith, c.loop-place-test.true, c.len-place-end.ensures)) (c.entry.ensures c.entry.result.now)
    (c.vector_after-vector.ensures (reverse (take c.loop-place.place c.args.journal.now.items)) c.loop-place.invariant)

pub returns : goal.returns
returns c = with_all (λ h. c.loop-place.vector ≡ current_vector h) c.args.journal.now.items c.loop-place.place (omega (arith, c.loop-place-test.false, c.len-place-end.ensures)) c.loop-place.invariant
