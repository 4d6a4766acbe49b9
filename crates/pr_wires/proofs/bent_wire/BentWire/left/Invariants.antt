use Rattle.std.proofs.Common.{◌≡◌, ◌≤◌, drop}
use Rattle.pr_wires.specs.Bends.{left}
use Rattle.pr_wires.proofs.bent_wire.BentWire.left.Given as goal

abbrev pub invariant-loop-bend : goal.invariant-loop-bend
invariant-loop-bend l = (left l.self.taken (drop l.bend-index l.self.bends) l.left ≡ left l.self.taken l.self.bends l.len) × (l.left ≤ l.len)
