use Rattle.std.proofs.Common.{◌≡◌, ◌≤◌, ◌++◌, drop, length}
use Rattle.pr_wires.specs.Bends.{bends_of}
use Rattle.pr_wires.proofs.bent_wires.BentWires.bends_of.Given as goal

-- what is found, and then what is still to be found, is all
abbrev pub invariant-loop-bend : goal.invariant-loop-bend
invariant-loop-bend l =
    (l.bends.items ++ bends_of (drop l.bend-index l.self.bends) l.nth ≡ bends_of l.self.bends l.nth)
    × (length l.bends.items ≤ l.bend-index)
