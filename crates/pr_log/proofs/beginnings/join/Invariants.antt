use Rattle.std.proofs.Common.{◌≡◌, ℕ, List, ◌≤◌, ◌+◌, ◌-◌}
use Rattle.pr_names.specs.Name.{IsName}
use Rattle.pr_log.specs.Sets.{is_lit_at}
use Rattle.pr_log.proofs.beginnings.join.Given as goal

abbrev pub invariant-loop-start : goal.invariant-loop-start
invariant-loop-start l = record {
  from : 1 ≤ l.clock;
  same : (o : List ℕ) (c : ℕ) → IsName o → is_lit_at l.sets.entries o c ≡ is_lit_at l.initial.sets.entries o c;
}

abbrev pub decreases-loop-start : goal.decreases-loop-start
decreases-loop-start l = l.hi + 1 - l.clock
