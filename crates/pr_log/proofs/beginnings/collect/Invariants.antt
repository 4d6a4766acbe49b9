use Rattle.std.proofs.Common.{ℕ, List, ◌≤◌, ◌-◌}
use Rattle.std.specs.Prelude.{◌⊎◌, ◌↔◌, IsTrue}
use Rattle.pr_names.specs.Name.{IsName}
use Rattle.pr_log.specs.Sets.{is_gathered, IsDarkAt}
use Rattle.pr_log.proofs.beginnings.collect.Given as goal

abbrev pub invariant-loop-start : goal.invariant-loop-start
invariant-loop-start l = record {
  from : l.lo ≤ l.clock;
  within : l.clock ≤ l.hi;
  names : (o : List ℕ) → IsName o → IsTrue (is_gathered l.names o) ↔ (IsTrue (is_gathered l.fn.names o) ⊎ IsDarkAt l.fn.sets.entries l.lo l.clock o);
}

abbrev pub decreases-loop-start : goal.decreases-loop-start
decreases-loop-start l = l.hi - l.clock
