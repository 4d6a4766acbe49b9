use Rattle.std.proofs.Common.{rules, ◌∙◌, ap, take}
use Rattle.pr_wires.specs.Bends.{Bent, put_in}
use Rattle.pr_wires.proofs.Extras.{puts_told}
use Rattle.pr_wires.proofs.bent_wire.BentWireWire.put.Goals as goal

pub returns-clause-put : goal.returns-clause-put
returns-clause-put c =
    let bytes = take c.if-left-eq0.len c.args.piece.now in
    let is = c.self.view_is ∙ c.put_in.ensures ∙ ap (λ (s : Bent). put_in s bytes) c.in_ok-call.ensures.after in
    let t = puts_told c.args.self.now _ bytes is c.self.invariant.0 c.self.invariant.1 in
    record {
      count = search rules;
      under = search rules;
      given = search rules;
      taken = search rules;
      held = t.0;
      just = (t.1, t.2);
      causes = search rules;
      sound = search rules;
    }
