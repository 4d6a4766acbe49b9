use Rattle.std.proofs.Common.{◌≡◌, IfOk, subst}
use Rattle.pr_inval.specs.declared.msg.Msg.{Msg}
use Rattle.pr_sim.proofs.Receiving.{told_at, is_what}
use Rattle.pr_sim.proofs.messages.again.Goals as goal

pub node_at-requires : goal.node_at-requires
node_at-requires c = (c.requires.1.0, c.requires.1.1)

pub sent_at-requires : goal.sent_at-requires
sent_at-requires c = (c.requires.0, told_at _ c.args.node c.node_at.result.now c.args.place c.requires.0 _ c.node_at.ensures c.journal.ensures c.requires.1)

pub through_bytes-requires : goal.through_bytes-requires
through_bytes-requires c = is_what c.requires.0 c.sent_at.result.now
    (c.sent_at.ensures c.requires.0 (told_at _ c.args.node c.node_at.result.now c.args.place c.requires.0 _ c.node_at.ensures c.journal.ensures c.requires.1)) c.requires.2

pub returns : goal.returns
returns c msg at = subst (λ (m : Msg). IfOk c.through_bytes.result (λ x. x ≡ m))
    (c.sent_at.ensures msg (told_at _ c.args.node c.node_at.result.now c.args.place msg _ c.node_at.ensures c.journal.ensures at)) c.through_bytes.ensures
