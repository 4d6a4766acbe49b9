use Rattle.std.proofs.Common.{◌≡◌, ℕ, ◌<◌, [], get_or, false}
use Rattle.pr_sets.specs.Spans.{has}
use Rattle.pr_gaps.proofs.gaps.Gaps.set_of.Given as goal

abbrev pub invariant-loop-index : goal.invariant-loop-index
invariant-loop-index l = (k : ℕ) → k < l.index → has (get_or l.sets k []) l.name ≡ false
