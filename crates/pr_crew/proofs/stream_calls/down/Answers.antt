use Rattle.std.proofs.Common.{◌∙◌, ap, sym}
use Rattle.pr_inval.specs.Standing.{means}
use Rattle.pr_node.specs.Calls.{IsDownFor, IsTimeWorn}
use Rattle.pr_story.specs.Sessions.{HasGoneOn}
use Rattle.pr_crew.specs.Stories.{stories}
use Rattle.pr_crew.specs.Acting.{nothing}
use Rattle.pr_crew.proofs.Called.{adds_own, left, makes, time_alike, within}
use Rattle.pr_crew.proofs.stream_calls.down.Goals as goal

pub invariant_of-value : goal.invariant_of-value
invariant_of-value g c = record {
  within = within c.number-number.result c.value.result.now c.down-done.new.self
      (left (λ s. (means c.args.session.now).standing) nothing c.number-number.result _ (λ done e. IsDownFor c.args.session.now.stream c.args.cause e × HasGoneOn (means c.args.session.now) (means c.down-done.new.session) c.args.session.now.attached e) c.value.result.now.node c.down-done.new.self _ c.down-done.result (λ v adds. adds nothing) c.down-done.ensures.ok c.down-done.ensures.fault);
}

pub put-requires-clause-value : goal.put-requires-clause-value
put-requires-clause-value g c =
    adds_own c.number-number.result c.value.result.now c.down-done.new.self c.take-turn.result.number _ (c.number-number.ensures ∙ sym c.take-turn.ensures.turn.1) (ap stories c.value.ensures.value ∙ c.take-turn.ensures.shown)
    (left (λ s. (means c.args.session.now).standing) nothing c.number-number.result _ (λ done e. IsDownFor c.args.session.now.stream c.args.cause e × HasGoneOn (means c.args.session.now) (means c.down-done.new.session) c.args.session.now.attached e) c.value.result.now.node c.down-done.new.self _ c.down-done.result (λ v adds. adds nothing) c.down-done.ensures.ok c.down-done.ensures.fault)

pub returns-clause-makes : goal.returns-clause-makes
returns-clause-makes g c plan h n needs of =
    makes plan h n c.args.cell.now c.args.pass c.put.result c.take-turn.result c.value.result.now c.down-done.new.self (λ a. IsTimeWorn a c.args.session.now.time) (λ s. (means c.args.session.now).standing) needs c.number-number.result _
    (λ done e. IsDownFor c.args.session.now.stream c.args.cause e × HasGoneOn (means c.args.session.now) (means c.down-done.new.session) c.args.session.now.attached e) c.down-done.result of c.requires.pass c.take-turn.ensures.turn.0 (ap stories c.value.ensures.value ∙ c.take-turn.ensures.shown) c.take-turn.ensures.grown
    (record { number = c.put.ensures.pass.1 ∙ c.take-turn.ensures.turn.1; held = c.put.ensures.kept.0 ∙ c.take-turn.ensures.kept.0; issued = c.put.ensures.kept.1 ∙ c.take-turn.ensures.kept.1 })
    c.put.ensures.added (time_alike c.args.session.now.time) c.number-number.ensures (λ v adds. adds needs) c.down-done.ensures.ok c.down-done.ensures.fault
