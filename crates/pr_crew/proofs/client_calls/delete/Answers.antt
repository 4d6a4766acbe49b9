use Rattle.std.proofs.Common.{[], ◌∙◌, ap, sym}
use Rattle.std.specs.Prelude.{true}
use Rattle.pr_node.specs.Calls.{IsWriteWorn}
use Rattle.pr_crew.specs.Asking.{IsWritten}
use Rattle.pr_crew.specs.Stories.{stories}
use Rattle.pr_crew.specs.Acting.{nowhere}
use Rattle.pr_crew.proofs.Called.{adding_of, adds_own, left, makes, own_of, write_alike}
use Rattle.pr_crew.proofs.client_calls.delete.Goals as goal

pub put-requires-clause-value : goal.put-requires-clause-value
put-requires-clause-value g c =
    own_of c.value.result.now c.delete-after.new.self c.take-turn.result c.take-turn.result.number c.delete-after.ensures.opened
    (adds_own c.number-number.result c.value.result.now c.delete-after.new.self.node c.take-turn.result.number _ (c.number-number.ensures ∙ sym c.take-turn.ensures.turn.1) (ap stories c.value.ensures.value ∙ c.take-turn.ensures.shown)
    (left nowhere (λ s. c.args.needs.now) c.number-number.result _ (IsWritten c.args.client c.args.name.now [] true c.args.needs.now) c.value.result.now.node c.delete-after.new.self.node _ c.delete-after.result (λ v adds. adds nowhere) c.delete-after.ensures.ok c.delete-after.ensures.fault))

pub returns-clause-makes : goal.returns-clause-makes
returns-clause-makes g c plan h n sessions of =
    makes plan h n c.args.cell.now c.args.pass c.put.result c.take-turn.result c.value.result.now c.delete-after.new.self.node (λ a. IsWriteWorn a c.args.needs.now) sessions (λ s. c.args.needs.now) c.number-number.result _
    (IsWritten c.args.client c.args.name.now [] true c.args.needs.now) c.delete-after.result of c.requires.pass c.take-turn.ensures.turn.0 (ap stories c.value.ensures.value ∙ c.take-turn.ensures.shown) c.take-turn.ensures.grown
    (record { number = c.put.ensures.pass.1 ∙ c.take-turn.ensures.turn.1; held = c.put.ensures.kept.0 ∙ c.take-turn.ensures.kept.0; issued = c.put.ensures.kept.1 ∙ c.take-turn.ensures.kept.1 })
    (adding_of c.value.result.now c.delete-after.new.self c.put.result c.take-turn.result c.delete-after.ensures.opened c.put.ensures.added) (write_alike c.args.needs.now) c.number-number.ensures (λ v adds. adds sessions) c.delete-after.ensures.ok c.delete-after.ensures.fault
