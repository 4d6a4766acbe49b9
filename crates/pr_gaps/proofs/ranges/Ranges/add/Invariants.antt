use Rattle.std.proofs.Common.{◌≤◌, ℕ}
use Rattle.std.specs.Prelude.{◌⊎◌, ◌↔◌}
use Rattle.std.specs.BTreeMap.{btree_map_len}
use Rattle.pr_gaps.specs.Ranges.{AreApart, IsIn, end_at}
use Rattle.pr_gaps.proofs.ranges.Ranges.add.Given as goal

-- the ranges that are left and the clocks so far are together what they were
abbrev pub invariant-loop-start : goal.invariant-loop-start
invariant-loop-start l = record {
  apart : AreApart (end_at l.self-inside.ends.entries);
  order : l.lo ≤ l.last;
  most : l.last ≤ 4611686018427387903;
  same : (c : ℕ) → (IsIn l.self-inside.ends.entries c ⊎ ((l.lo ≤ c) × (c ≤ l.last))) ↔ (IsIn l.initial.self-inside.ends.entries c ⊎ ((l.lo ≤ c) × (c ≤ l.hi)));
  left : (c : ℕ) → IsIn l.self-inside.ends.entries c → IsIn l.initial.self-inside.ends.entries c;
}

abbrev pub decreases-loop-start : goal.decreases-loop-start
decreases-loop-start l = btree_map_len l.self-inside.ends
