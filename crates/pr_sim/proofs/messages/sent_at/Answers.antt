use Rattle.std.proofs.Common.{◌≡◌, ◌∙◌, ap, rules, sym}
use Rattle.pr_story.specs.declared.entry.Entry.{Entry}
use Rattle.pr_story.specs.declared.event.Event.TheVariants.{Sent}
use Rattle.pr_sim.proofs.messages.sent_at.Goals as goal

pub unreachable-requires : goal.unreachable-requires
unreachable-requires c = c.in_default.not-Sent c.requires.0 (ap (λ (e : Entry). e.event) (c.entry.ensures c.entry.result.now) ∙ c.requires.1.1 c.entry.result.now)

pub returns : goal.returns
returns c msg at =
    let same : Sent c.in-Sent.msg ≡ Sent msg = sym c.in-Sent.is ∙ ap (λ (e : Entry). e.event) (c.entry.ensures c.entry.result.now) ∙ at.1 c.entry.result.now in
    grind (rules, same)
