use Rattle.std.proofs.Common.{rules, length}
use Rattle.pr_wires.proofs.Extras.{room_for, room_kept}
use Rattle.pr_wires.proofs.bent_wire.BentWire.put_byte.Goals as goal

pub push_given-requires : goal.push_given-requires
push_given-requires c = room_for c.self.inside.put c.self.inside.under (length c.self.inside.coming.items) c.self.inside.bends.items c.repeats-again.result
    (search rules) (search rules) (search rules) (search rules) (search rules)

pub invariant_of-self : goal.invariant_of-self
invariant_of-self c = room_kept c.self.inside.put c.saturating_add-self-inside.result c.self.inside.under c.self.inside.coming.items c.push_given.new.coming.items c.flipped-given.result
    c.self.inside.bends.items c.repeats-again.result (search rules) (search rules) (search rules) (search rules) (search rules) (search rules)
