use Rattle.std.proofs.Common.{◌≡◌, ℕ, List, ◌∙◌, ap, take, reverse}
use Rattle.pr_vectors.specs.Vector.{join_of}
use Rattle.pr_story.specs.Knowledge.{floor_of}
use Rattle.pr_story.proofs.NewestFirst.{with_more, with_all}
use Rattle.pr_story.proofs.plain.vectors.floor_of.Goals as goal

pub loop-entry-preserved : goal.loop-entry-preserved
loop-entry-preserved c =
    with_more (λ h. c.join-floor.result ≡ floor_of h) _ _ c.entry-item.result c.loop-entry-test.true c.entry-item.is
    (c.join-floor.ensures ∙ ap (λ (v : List ℕ). join_of v c.floor_after.result) c.loop-entry.invariant ∙ ap (λ (v : List ℕ). join_of (floor_of (reverse (take c.loop-entry.entry-index c.args.entries.now))) v) c.floor_after.ensures)

pub returns : goal.returns
returns c = with_all (λ h. c.loop-entry.floor ≡ floor_of h) _ _ c.loop-entry-test.false c.loop-entry.invariant
