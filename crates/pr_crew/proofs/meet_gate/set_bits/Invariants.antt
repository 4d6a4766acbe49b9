use Rattle.std.proofs.Common.{◌≡◌, ◌≤◌}
use Rattle.pr_crew.specs.Lines.{count_set}
use Rattle.pr_crew.proofs.meet_gate.set_bits.Given as goal

abbrev pub invariant-loop-k : goal.invariant-loop-k
invariant-loop-k l = (l.set ≡ count_set l.word l.k) × (l.set ≤ l.k)
