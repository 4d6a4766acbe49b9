use Rattle.std.proofs.Common.{rules, ◌+◌}
use Rattle.pr_wires.proofs.Plans.{refused_bent, unbent_sound}
use Rattle.pr_wires.proofs.bent_wires.BentWiresWires.connect.Goals as goal

pub returns-then-is_refused-clause-sound : goal.returns-then-is_refused-clause-sound
returns-then-is_refused-clause-sound c = refused_bent c.args.self.now.bends (c.args.self.now.made + 1) (search rules)

pub returns-clause-sound : goal.returns-clause-sound
returns-clause-sound c = unbent_sound c.args.self.now.bends c.new.result.bends (c.args.self.now.made + 1) (search rules)
