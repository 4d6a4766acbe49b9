use Rattle.std.proofs.Common.{◌≡◌, ℕ, ◌≤◌, ◌<◌, ◌+◌, ◌-◌}
use Rattle.std.specs.Prelude.{◌⊎◌}
use Rattle.pr_log.specs.Sets.{begins_at, IsNarrowed}
use Rattle.pr_log.proofs.beginnings.narrow.Given as goal

abbrev pub invariant-loop-start : goal.invariant-loop-start
invariant-loop-start l = record {
  from : l.lo ≤ l.clock;
  end : l.clock ≤ l.hi + 1;
  done : (c : ℕ) → l.lo ≤ c → c < l.clock → IsNarrowed l.target (begins_at l.initial.sets.entries c) (begins_at l.sets.entries c);
  rest : (c : ℕ) → ((c < l.lo) ⊎ (l.clock ≤ c)) → begins_at l.sets.entries c ≡ begins_at l.initial.sets.entries c;
}

abbrev pub decreases-loop-start : goal.decreases-loop-start
decreases-loop-start l = l.hi + 1 - l.clock
