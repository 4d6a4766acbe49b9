use Rattle.std.proofs.Common.{◌≡◌, ℕ, List, ◌∙◌, sym, ap}
use Rattle.pr_story.specs.declared.entry.Entry.{Entry}
use Rattle.pr_story.specs.Clients.{seen_after}
use Rattle.pr_story.proofs.NewestFirst.{with_more, with_all}
use Rattle.pr_story.proofs.Folds.{seen_by, client_seen}
use Rattle.pr_story.proofs.plain.clients.client_vector.Goals as goal

pub loop-entry-preserved : goal.loop-entry-preserved
loop-entry-preserved c =
    with_more (λ h. c.seen_after-seen.result ≡ seen_by h c.args.client) _ _ c.entry-item.result c.loop-entry-test.true c.entry-item.is
    (c.seen_after-seen.ensures ∙ ap (λ (v : List ℕ). seen_after c.entry-item.result.event c.args.client v) c.loop-entry.invariant)

pub returns : goal.returns
returns c = λ h e.
    with_all (λ j. c.loop-entry.seen ≡ seen_by j c.args.client) _ _ c.loop-entry-test.false c.loop-entry.invariant
    ∙ ap (λ (j : List Entry). seen_by j c.args.client) (sym e) ∙ sym (client_seen h c.args.client)
