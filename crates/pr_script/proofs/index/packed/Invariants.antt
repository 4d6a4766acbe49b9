use Rattle.std.proofs.Common.{◌≡◌, ◌≤◌, ◌<◌, ◌-◌, ◌^◌, length, drop}
use Rattle.pr_script.specs.Packed.{packed}
use Rattle.pr_script.proofs.index.packed.Given as goal

abbrev pub invariant-loop-i : goal.invariant-loop-i
invariant-loop-i l = record {
  packed : l.n ≡ packed (drop l.i l.label);
  small : l.n < 256 ^ (length l.label - l.i);
  within : l.i ≤ length l.label;
}

abbrev pub decreases-loop-i : goal.decreases-loop-i
decreases-loop-i l = l.i
