use Rattle.std.proofs.Common.{◌≡◌, ℕ, List, ◌||◌, vec_len}
use Rattle.pr_names.specs.Name.{IsName}
use Rattle.pr_sets.specs.Spans.{has}
use Rattle.pr_log.specs.Sets.{is_in_any}
use Rattle.pr_log.proofs.collector.add_set.Given as goal

-- the sets that are left and the set so far have the names that they had
abbrev pub invariant-loop-last : goal.invariant-loop-last
invariant-loop-last l = (o : List ℕ) → IsName o → (is_in_any l.sets.items o || has l.set o) ≡ (is_in_any l.initial.sets.items o || has l.initial.set o)

abbrev pub decreases-loop-last : goal.decreases-loop-last
decreases-loop-last l = vec_len l.sets
