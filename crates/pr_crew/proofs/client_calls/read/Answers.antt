use Rattle.std.proofs.Common.{◌∙◌, ap, sym}
use Rattle.pr_node.specs.Calls.{IsTimeWorn}
use Rattle.pr_crew.specs.Asking.{IsRead}
use Rattle.pr_crew.specs.Stories.{stories}
use Rattle.pr_crew.specs.Acting.{nowhere}
use Rattle.pr_crew.proofs.Called.{adding_of, adds_own, left, makes, own_of, time_alike}
use Rattle.pr_crew.proofs.client_calls.read.Goals as goal

pub put-requires-clause-value : goal.put-requires-clause-value
put-requires-clause-value g c =
    own_of c.value.result.now c.read-after.new.self c.take-turn.result c.take-turn.result.number c.read-after.ensures.opened
    (adds_own c.number-number.result c.value.result.now c.read-after.new.self.node c.take-turn.result.number _ (c.number-number.ensures ∙ sym c.take-turn.ensures.turn.1) (ap stories c.value.ensures.value ∙ c.take-turn.ensures.shown)
    (left nowhere (λ s. c.args.needs.now) c.number-number.result _ (IsRead c.args.client c.args.name.now c.args.needs.now) c.value.result.now.node c.read-after.new.self.node _ c.read-after.result (λ v adds. adds nowhere) c.read-after.ensures.ok c.read-after.ensures.fault))

pub returns-clause-makes : goal.returns-clause-makes
returns-clause-makes g c plan h n sessions of =
    makes plan h n c.args.cell.now c.args.pass c.put.result c.take-turn.result c.value.result.now c.read-after.new.self.node (λ a. IsTimeWorn a 0) sessions (λ s. c.args.needs.now) c.number-number.result _
    (IsRead c.args.client c.args.name.now c.args.needs.now) c.read-after.result of c.requires.pass c.take-turn.ensures.turn.0 (ap stories c.value.ensures.value ∙ c.take-turn.ensures.shown) c.take-turn.ensures.grown
    (record { number = c.put.ensures.pass.1 ∙ c.take-turn.ensures.turn.1; held = c.put.ensures.kept.0 ∙ c.take-turn.ensures.kept.0; issued = c.put.ensures.kept.1 ∙ c.take-turn.ensures.kept.1 })
    (adding_of c.value.result.now c.read-after.new.self c.put.result c.take-turn.result c.read-after.ensures.opened c.put.ensures.added) (time_alike 0) c.number-number.ensures (λ v adds. adds sessions) c.read-after.ensures.ok c.read-after.ensures.fault
