use Rattle.std.proofs.Common.{◌≡◌, drop}
use Rattle.pr_crew.specs.Lines.{bits_of}
use Rattle.pr_crew.proofs.meet_gate.bits.Given as goal

-- the bits of the lines from the next one's on
abbrev pub invariant-loop-k : goal.invariant-loop-k
invariant-loop-k l = l.bits ≡ bits_of (drop l.k l.lines) l.line
