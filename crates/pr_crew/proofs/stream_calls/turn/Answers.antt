use Rattle.std.proofs.Common.{◌∙◌, ap, sym}
use Rattle.std.specs.Prelude.{true}
use Rattle.pr_inval.specs.Standing.{means}
use Rattle.pr_node.specs.Calls.{IsStep, IsTimeWorn}
use Rattle.pr_story.specs.Sessions.{HasGoneOn}
use Rattle.pr_crew.specs.Stories.{stories}
use Rattle.pr_crew.specs.Acting.{nothing}
use Rattle.pr_crew.proofs.Called.{adds_own, left, makes, time_alike, within}
use Rattle.pr_crew.proofs.stream_calls.turn.Goals as goal

pub invariant_of-value : goal.invariant_of-value
invariant_of-value g c = record {
  within = within c.number-number.result c.value.result.now c.turn-step.new.self
      (left (λ s. (means c.args.session.now).standing) nothing c.number-number.result _ (λ step e. IsStep c.args.session.now.stream step e × HasGoneOn (means c.args.session.now) (means c.turn-step.new.session) true e) c.value.result.now.node c.turn-step.new.self _ c.turn-step.result (λ v adds. adds nothing) c.turn-step.ensures.ok c.turn-step.ensures.fault);
}

pub put-requires-clause-value : goal.put-requires-clause-value
put-requires-clause-value g c =
    adds_own c.number-number.result c.value.result.now c.turn-step.new.self c.take-turn.result.number _ (c.number-number.ensures ∙ sym c.take-turn.ensures.turn.1) (ap stories c.value.ensures.value ∙ c.take-turn.ensures.shown)
    (left (λ s. (means c.args.session.now).standing) nothing c.number-number.result _ (λ step e. IsStep c.args.session.now.stream step e × HasGoneOn (means c.args.session.now) (means c.turn-step.new.session) true e) c.value.result.now.node c.turn-step.new.self _ c.turn-step.result (λ v adds. adds nothing) c.turn-step.ensures.ok c.turn-step.ensures.fault)

pub returns-clause-makes : goal.returns-clause-makes
returns-clause-makes g c plan h n needs of =
    makes plan h n c.args.cell.now c.args.pass c.put.result c.take-turn.result c.value.result.now c.turn-step.new.self (λ a. IsTimeWorn a c.args.session.now.time) (λ s. (means c.args.session.now).standing) needs c.number-number.result _
    (λ step e. IsStep c.args.session.now.stream step e × HasGoneOn (means c.args.session.now) (means c.turn-step.new.session) true e) c.turn-step.result of c.requires.pass c.take-turn.ensures.turn.0 (ap stories c.value.ensures.value ∙ c.take-turn.ensures.shown) c.take-turn.ensures.grown
    (record { number = c.put.ensures.pass.1 ∙ c.take-turn.ensures.turn.1; held = c.put.ensures.kept.0 ∙ c.take-turn.ensures.kept.0; issued = c.put.ensures.kept.1 ∙ c.take-turn.ensures.kept.1 })
    c.put.ensures.added (time_alike c.args.session.now.time) c.number-number.ensures (λ v adds. adds needs) c.turn-step.ensures.ok c.turn-step.ensures.fault
