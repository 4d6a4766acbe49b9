use Rattle.std.proofs.Common.{rules, ◌≡◌, ◌+◌, ◌-◌, ◌++◌, ◌∙◌, List, ℕ, Option, Some, ap, sym, length, take, drop}
use Rattle.std.proofs.lemmas.List.{length-drop}
use Rattle.pr_wires.specs.Made.{Tape}
use Rattle.pr_wires.proofs.Tapes.{part_left, part_taken}
use Rattle.pr_wires.proofs.tape_wire.TapeWireWire.take.Goals as goal

pub returns-clause-taken : goal.returns-clause-taken
returns-clause-taken c =
    let at = c.self.inside.at in
    let len = length c.args.buf.now in
    let part = c.copy_from_slice.new.self in
    let is : part ≡ take ((at + len) - at) (drop at c.self.inside.bytes.items) = c.copy_from_slice.ensures.after ∙ ap (λ (t : List ℕ). take ((at + len) - at) (drop at t)) c.deref.ensures.value in
    record {
      count = search rules;
      under = search rules;
      given = search rules;
      taken = ap (λ (t : List ℕ). let o : Option (List ℕ) = Some t in o) (part_taken at len c.self.inside.bytes.items part is)
          ∙ ap (λ (v : Tape). let o : Option (List ℕ) = Some (take v.at v.given ++ take len part) in o) c.self.view_is;
      held = sym (ap (λ (v : Tape). drop v.at v.given) c.self.view_is) ∙ part_left at len c.self.inside.bytes.items part is;
      just = (length-drop _ _, length-drop _ _);
      causes = search rules;
      sound = search rules;
    }
