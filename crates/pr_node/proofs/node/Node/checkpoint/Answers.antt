use Rattle.std.proofs.Common.{◌∙◌, sym, refl, ap, subst, List, reverse}
use Rattle.pr_inval.specs.declared.msg.Msg.{Msg}
use Rattle.pr_inval.specs.Points.{to_of}
use Rattle.pr_inval.specs.Standing.{means, SessionMeaning}
use Rattle.pr_story.specs.declared.entry.Entry.{Entry}
use Rattle.pr_story.specs.declared.event.Event.TheVariants.{Sent}
use Rattle.pr_node.proofs.Adding.{IsReady, stands, adds}
use Rattle.pr_node.proofs.Begun.{checkpoint_noted, checkpoint_ready, snapshot_ends}
use Rattle.pr_node.proofs.Quiet.{quiet_tied}
use Rattle.pr_node.proofs.node.Node.checkpoint.Goals as goal
use Rattle.pr_story.specs.Commands.{IsCheckpoint}

pub invariant_of-self-2 : goal.invariant_of-self-2
invariant_of-self-2 c =
    stands c.self.inside.id _ _ _ _ _ _ c.self.invariant.0 c.in_ok-time.ensures.items c.sent-2.ensures.items
    (quiet_tied c.self.inside.id _ _ _ tt (c.self.invariant.1 c.in_ok-time.ensures.worked))

pub returns-clause-ok : goal.returns-clause-ok
returns-clause-ok c needs =
    let n = c.self.inside.id in
    let j : List Entry = reverse c.self.inside.diary.entries.items in
    let a : SessionMeaning = means c.args.session.now in
    let sets = c.self.inside.stores.gaps.sets in
    let tied = c.self.invariant.1 c.in_ok-time.ensures.worked in
    let next = c.in_ok-msg.ensures.next n j tied in
    let ends = snapshot_ends sets n j a.standing.names c.in_ok-msg.msg.kind next.3 in
    rw (← c.self.view_is) (adds n _ _ _ _ _ _ _ _ (λ x. a.standing) needs _ c.time.result _ c.in_ok-time.ensures.items c.sent-2.ensures.items refl c.sent-2.ensures.spent
    (subst (λ (m : Msg). IsReady (λ x. a.standing) needs n j sets (record { time = c.in_ok-time.time; caller = c.args.caller; event = Sent m })) (sym c.in_ok-sent.ensures)
    (checkpoint_ready needs n j sets a c.in_ok-time.time c.args.caller c.in_ok-msg.msg c.in_ok-msg.ensures.range next))
    c.ranges.caller.fits refl c.time.ensures.value c.in_ok-time.ensures.time (
      (ap (λ (m : Msg). Sent m) c.in_ok-sent.ensures, next.0, ends.1),
      checkpoint_noted a (means c.sent.new.self) c.vector.result.now c.in_ok-time.time c.args.caller c.in_ok-sent.sent c.requires c.sent.ensures
          (ap (λ (m : Msg). m.stream) c.in_ok-sent.ensures ∙ next.0)
          (ap (λ (m : Msg). to_of m.kind) c.in_ok-sent.ensures ∙ ends.0 ∙ sym (c.vector.ensures.value ∙ tied.gaps.vector))
          (subst (λ (m : Msg). IsCheckpoint m.kind) (sym c.in_ok-sent.ensures) ends.1),
    ))

pub returns-clause-grammar : goal.returns-clause-grammar
returns-clause-grammar c = c.in_ok-msg.ensures.spelled c.self.inside.id (reverse c.self.inside.diary.entries.items) (c.self.invariant.1 c.in_ok-time.ensures.worked)
