use Rattle.std.proofs.Common.{◌≡◌, ℕ, List, ◌≤◌, ◌-◌}
use Rattle.std.specs.Prelude.{◌⊎◌, ◌↔◌, IsTrue}
use Rattle.pr_names.specs.Name.{IsName}
use Rattle.pr_log.specs.Known.{IsOmittedOf}
use Rattle.pr_log.specs.Sets.{is_gathered}
use Rattle.pr_log.proofs.index.Index.omit_each.Given as goal

abbrev pub invariant-loop-write : goal.invariant-loop-write
invariant-loop-write l = record {
  from : l.from ≤ l.clock;
  within : (l.clock ≤ l.to) ⊎ (l.clock ≡ l.from);
  names : (o : List ℕ) → IsName o → IsTrue (is_gathered l.names o) ↔ (IsTrue (is_gathered l.fn.names o) ⊎ IsOmittedOf l.self l.sub l.writer l.from l.clock o);
}

abbrev pub decreases-loop-write : goal.decreases-loop-write
decreases-loop-write l = l.to - l.clock
