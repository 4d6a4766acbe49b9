use Rattle.std.proofs.Common.{◌≡◌, ℕ, List, ◌||◌}
use Rattle.pr_names.specs.Name.{IsName}
use Rattle.pr_sets.specs.Spans.{has}
use Rattle.pr_log.specs.Sets.{is_any}
use Rattle.pr_log.proofs.collector.set_of.Given as goal

-- the set so far and the names that are left are the names of all
abbrev pub invariant-loop-name : goal.invariant-loop-name
invariant-loop-name l = (o : List ℕ) → IsName o → (has l.set o || is_any l.name-iterator o) ≡ is_any l.names.keys o
