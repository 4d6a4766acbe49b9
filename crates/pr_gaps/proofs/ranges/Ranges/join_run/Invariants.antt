use Rattle.std.proofs.Common.{◌≤◌, ℕ}
use Rattle.std.specs.Prelude.{◌⊎◌, ◌↔◌}
use Rattle.std.specs.BTreeMap.{btree_map_len}
use Rattle.pr_gaps.specs.Ranges.{AreApart, IsIn, end_at}
use Rattle.pr_gaps.proofs.ranges.Ranges.join_run.Given as goal

-- the clocks up to the last and the ranges that are left are together what they were
abbrev pub invariant-loop-start : goal.invariant-loop-start
invariant-loop-start l = record {
  apart : AreApart (end_at l.self-inside.ends.entries);
  most : l.reached ≤ 4611686018427387903;
  same : (c : ℕ) → (((1 ≤ c) × (c ≤ l.reached)) ⊎ IsIn l.self-inside.ends.entries c) ↔ (((1 ≤ c) × (c ≤ l.run)) ⊎ IsIn l.initial.self-inside.ends.entries c);
}

abbrev pub decreases-loop-start : goal.decreases-loop-start
decreases-loop-start l = btree_map_len l.self-inside.ends
