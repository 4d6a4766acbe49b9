use Rattle.std.proofs.Common.{ℕ, ◌≤◌, ◌<◌, subst, sym}
use Rattle.pr_inval.specs.Standing.{means}
use Rattle.pr_node.proofs.Begun.{snapshot_sent}
use Rattle.pr_node.proofs.Spelled.{message_spelled, snapshot_kind}
use Rattle.pr_node.proofs.starting.checkpoint.Goals as goal

pub returns-clause-next : goal.returns-clause-next
returns-clause-next c n j tied =
    snapshot_sent c.args.stores.now.gaps.sets n j c.sub.result.now c.in_ok-kind.kind (means c.args.session.now) c.args.time c.message.result c.sub.ensures.value c.message.ensures.stream c.message.ensures.number c.message.ensures.time c.message.ensures.kind
    (c.in_ok-kind.ensures.snapshot n j tied)

pub returns-clause-spelled : goal.returns-clause-spelled
returns-clause-spelled c n j tied =
    message_spelled c.in_ok-kind.kind c.message.result (means c.args.session.now).standing.number (means c.args.session.now).standing.time
    (snapshot_kind c.args.stores.now.gaps.sets n j c.sub.result.now c.in_ok-kind.kind tied.spelled c.in_ok-kind.ensures.range (c.in_ok-kind.ensures.snapshot n j tied))
    c.message.ensures.kind c.message.ensures.number (subst (λ (k : ℕ). k ≤ (means c.args.session.now).standing.time) c.number.ensures.value c.number.ensures.less)
    (subst (λ (t : ℕ). (means c.args.session.now).standing.time < t) (sym c.message.ensures.time) c.requires.later) (subst (λ (t : ℕ). t ≤ 4611686018427387903) (sym c.message.ensures.time) c.requires.most)
