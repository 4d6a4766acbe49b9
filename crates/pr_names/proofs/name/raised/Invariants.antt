use Rattle.std.proofs.Common.{◌≡◌, ◌≤◌, length, take}
use Rattle.pr_names.specs.Above.{raised}
use Rattle.pr_names.proofs.name.raised.Given as goal

abbrev pub invariant-loop-len : goal.invariant-loop-len
invariant-loop-len l = record {
  within : l.len ≤ length l.bytes;
  same : raised (take l.len l.bytes) ≡ raised l.bytes;
}

abbrev pub decreases-loop-len : goal.decreases-loop-len
decreases-loop-len l = l.len
