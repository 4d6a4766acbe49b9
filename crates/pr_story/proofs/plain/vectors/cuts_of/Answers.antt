use Rattle.std.proofs.Common.{◌≡◌, ℕ, List, ◌∙◌, ap, take, reverse}
use Rattle.pr_vectors.specs.Vector.{join_of}
use Rattle.pr_story.specs.Knowledge.{cuts_of}
use Rattle.pr_story.proofs.NewestFirst.{with_more, with_all}
use Rattle.pr_story.proofs.plain.vectors.cuts_of.Goals as goal

pub loop-entry-preserved : goal.loop-entry-preserved
loop-entry-preserved c =
    with_more (λ h. c.join-cuts.result ≡ cuts_of h) _ _ c.entry-item.result c.loop-entry-test.true c.entry-item.is
    (c.join-cuts.ensures ∙ ap (λ (v : List ℕ). join_of v c.cut_in.result) c.loop-entry.invariant ∙ ap (λ (v : List ℕ). join_of (cuts_of (reverse (take c.loop-entry.entry-index c.args.entries.now))) v) c.cut_in.ensures)

pub returns : goal.returns
returns c = with_all (λ h. c.loop-entry.cuts ≡ cuts_of h) _ _ c.loop-entry-test.false c.loop-entry.invariant
