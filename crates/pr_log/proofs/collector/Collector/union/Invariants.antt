use Rattle.std.proofs.Common.{◌≡◌, ℕ, List, ◌||◌, vec_len}
use Rattle.pr_names.specs.Name.{IsName}
use Rattle.pr_sets.specs.Spans.{has}
use Rattle.pr_log.specs.Sets.{is_in_any}
use Rattle.pr_log.proofs.collector.Collector.union.Given as goal

-- the sets that are left and the union so far have the names of all
abbrev pub invariant-loop-set : goal.invariant-loop-set
invariant-loop-set l = (o : List ℕ) → IsName o → (is_in_any l.sets.items o || has l.union o) ≡ (is_in_any l.initial.sets.items o || has l.initial.union o)

abbrev pub decreases-loop-set : goal.decreases-loop-set
decreases-loop-set l = vec_len l.sets
