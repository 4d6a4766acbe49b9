use Rattle.std.proofs.Common.{◌-◌, subst, sym}
use Rattle.pr_story.specs.Places.{SendsAt}
use Rattle.pr_sim.proofs.JustSent.{told_last}
use Rattle.pr_sim.proofs.messages.last_sent.Goals as goal

pub node_at-requires : goal.node_at-requires
node_at-requires c = (c.requires.1.0, c.requires.1.1)

pub returns : goal.returns
returns c msg last =
    let list = c.journal-journal.result.now.items in
    c.sent_at.ensures msg (subst (λ n. SendsAt list (n - 1) msg) (sym c.len.ensures) (told_last _ c.args.node c.node_at.result.now msg list c.node_at.ensures c.journal-journal.ensures last).0)
