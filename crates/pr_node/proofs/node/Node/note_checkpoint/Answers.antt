use Rattle.std.proofs.Common.{◌∙◌, sym, refl, List, reverse}
use Rattle.pr_inval.specs.Standing.{means, SessionMeaning}
use Rattle.pr_story.specs.declared.entry.Entry.{Entry}
use Rattle.pr_node.proofs.Adding.{stands, adds}
use Rattle.pr_node.proofs.Begun.{checkpoint_noted, checkpoint_ready, snapshot_ends}
use Rattle.pr_node.proofs.Quiet.{quiet_tied}
use Rattle.pr_node.proofs.node.Node.note_checkpoint.Goals as goal

pub invariant_of-self-2 : goal.invariant_of-self-2
invariant_of-self-2 c =
    stands c.self.inside.id _ _ _ _ _ _ c.self.invariant.0 c.in_ok-time.ensures.items c.sent-2.ensures.items
    (quiet_tied c.self.inside.id _ _ _ tt (c.self.invariant.1 c.in_ok-time.ensures.worked))

pub returns-clause-ok : goal.returns-clause-ok
returns-clause-ok c needs =
    let n = c.self.inside.id in
    let j : List Entry = reverse c.self.inside.diary.entries.items in
    let a : SessionMeaning = means c.args.session.now in
    let sets = c.self.inside.stores.gaps.sets in
    let tied = c.self.invariant.1 c.in_ok-time.ensures.worked in
    let msg = c.in_ok-msg.msg in
    let next = c.in_ok-msg.ensures.next n j tied in
    let ends = snapshot_ends sets n j a.standing.names c.in_ok-msg.msg.kind next.3 in
    rw (← c.self.view_is) (adds n _ _ _ _ _ _ _ _ (λ x. a.standing) needs _ c.time.result _ c.in_ok-time.ensures.items c.sent-2.ensures.items refl c.sent-2.ensures.spent
    (checkpoint_ready needs n j sets a c.in_ok-time.time c.args.caller msg c.in_ok-msg.ensures.range next)
    c.ranges.caller.fits refl c.time.ensures.value c.in_ok-time.ensures.time (
      (msg, (refl, next.0, ends.1), c.in_ok-msg.ensures.spelled n j tied),
      checkpoint_noted a (means c.sent.new.self) c.vector.result.now c.in_ok-time.time c.args.caller msg c.requires c.sent.ensures next.0 (ends.0 ∙ sym (c.vector.ensures.value ∙ tied.gaps.vector)) ends.1,
    ))
