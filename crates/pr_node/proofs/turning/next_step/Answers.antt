use Rattle.std.proofs.Common.{ℕ, sym, ◌∙◌, reverse, rules}
use Rattle.pr_inval.specs.Standing.{means}
use Rattle.pr_story.proofs.Withholding.{if_ok}
use Rattle.pr_node.specs.Sending.{IsBodyTurn, IsNextTurn}
use Rattle.pr_node.specs.Ties.{IsTied}
use Rattle.pr_node.proofs.Going.{turn_ahead, turn_body}
use Rattle.pr_story.specs.declared.event.Event.TheVariants.{Sent}
use Rattle.pr_story.specs.Turns.{event_of}
use Rattle.pr_inval.specs.declared.step.Step.{Step}
use Rattle.pr_node.proofs.turning.next_step.Goals as goal

pub returns-then-not-le-2-clause-next : goal.returns-then-not-le-2-clause-next
returns-then-not-le-2-clause-next c n f =
    turn_ahead n (reverse c.args.journal.now.items) c.args.stores.now.log (means c.args.session.now) c.args.time c.pos-position.result.now c.vector.result.now c.sub.result.now (Sent c.in_ok-msg.msg) f.log (search rules) c.pos-position.ensures.value c.sub.ensures.value c.vector.ensures.value
    (search rules) (c.in_ok-msg.ensures.next n (reverse c.args.journal.now.items) f.log)

pub returns-then-bodies-clause-next : goal.returns-then-bodies-clause-next
returns-then-bodies-clause-next c =
    let B : Step → Type 0 = λ s. (n : ℕ) → IsTied n (reverse c.args.journal.now.items) c.args.stores.now → IsBodyTurn (reverse c.args.journal.now.items) (means c.args.session.now) c.args.time (event_of (means c.args.session.now).stream s) in
    let N : Step → Type 0 = λ s. (n : ℕ) → IsTied n (reverse c.args.journal.now.items) c.args.stores.now → IsNextTurn n (reverse c.args.journal.now.items) (means c.args.session.now) c.args.time (event_of (means c.args.session.now).stream s) in
    if_ok c.send_body.result B N
    (λ s so n f. turn_body n (reverse c.args.journal.now.items) c.args.stores.now.log (means c.args.session.now) c.args.time c.pos-position.result.now c.vector.result.now (event_of (means c.args.session.now).stream s) f.log (search rules) c.pos-position.ensures.value c.vector.ensures.value
    (search rules) (sym c.bodies.ensures ∙ c.if-bodies.true) (so n f))
    c.send_body.ensures.next
