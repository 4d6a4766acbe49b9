use Rattle.std.proofs.Common.{◌∙◌, ap, sym}
use Rattle.pr_node.specs.Calls.{IsTaken, IsTimeWorn}
use Rattle.pr_crew.specs.Stories.{stories}
use Rattle.pr_crew.specs.Acting.{nothing, nowhere}
use Rattle.pr_crew.proofs.Called.{adds_own, left, makes, time_alike, within}
use Rattle.pr_crew.proofs.stream_calls.accept.Goals as goal

pub invariant_of-value : goal.invariant_of-value
invariant_of-value g c = record {
  within = within c.number-number.result c.value.result.now c.accept-taken.new.self
      (left nowhere nothing c.number-number.result _ (IsTaken c.args.msg) c.value.result.now.node c.accept-taken.new.self _ c.accept-taken.result (λ v adds. adds nowhere nothing) c.accept-taken.ensures.ok c.accept-taken.ensures.fault);
}

pub put-requires-clause-value : goal.put-requires-clause-value
put-requires-clause-value g c =
    adds_own c.number-number.result c.value.result.now c.accept-taken.new.self c.take-turn.result.number _ (c.number-number.ensures ∙ sym c.take-turn.ensures.turn.1) (ap stories c.value.ensures.value ∙ c.take-turn.ensures.shown)
    (left nowhere nothing c.number-number.result _ (IsTaken c.args.msg) c.value.result.now.node c.accept-taken.new.self _ c.accept-taken.result (λ v adds. adds nowhere nothing) c.accept-taken.ensures.ok c.accept-taken.ensures.fault)

pub returns-clause-makes : goal.returns-clause-makes
returns-clause-makes g c plan h n sessions needs of =
    makes plan h n c.args.cell.now c.args.pass c.put.result c.take-turn.result c.value.result.now c.accept-taken.new.self (λ a. IsTimeWorn a c.args.msg.time) sessions needs c.number-number.result _
    (IsTaken c.args.msg) c.accept-taken.result of c.requires.pass c.take-turn.ensures.turn.0 (ap stories c.value.ensures.value ∙ c.take-turn.ensures.shown) c.take-turn.ensures.grown
    (record { number = c.put.ensures.pass.1 ∙ c.take-turn.ensures.turn.1; held = c.put.ensures.kept.0 ∙ c.take-turn.ensures.kept.0; issued = c.put.ensures.kept.1 ∙ c.take-turn.ensures.kept.1 })
    c.put.ensures.added (time_alike c.args.msg.time) c.number-number.ensures (λ v adds. adds sessions needs) c.accept-taken.ensures.ok c.accept-taken.ensures.fault
