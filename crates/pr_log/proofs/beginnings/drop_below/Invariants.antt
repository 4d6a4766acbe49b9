use Rattle.std.proofs.Common.{◌≡◌, ℕ, ◌≤◌}
use Rattle.std.specs.BTreeMap.{btree_map_len}
use Rattle.pr_log.specs.Sets.{begins_at}
use Rattle.pr_log.proofs.beginnings.drop_below.Given as goal

abbrev pub invariant-loop-first : goal.invariant-loop-first
invariant-loop-first l = (c : ℕ) → l.clock ≤ c → begins_at l.sets.entries c ≡ begins_at l.initial.sets.entries c

abbrev pub decreases-loop-first : goal.decreases-loop-first
decreases-loop-first l = btree_map_len l.sets
