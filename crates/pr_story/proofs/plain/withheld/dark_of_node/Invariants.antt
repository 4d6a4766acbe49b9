use Rattle.std.specs.Prelude.{◌≤◌, ◌≡◌, ◌⊎◌, reverse}
use Rattle.pr_vectors.specs.Vector.{clock_of}
use Rattle.pr_sets.specs.Spans.{IsSetOf}
use Rattle.pr_story.proofs.Withholding.{IsDarkBelow}
use Rattle.pr_story.proofs.plain.withheld.dark_of_node.Given as goal

abbrev pub invariant-loop-before : goal.invariant-loop-before
invariant-loop-before l = IsSetOf l.dark (IsDarkBelow l.node (reverse l.entries) l.from l.n l.before) × ((l.before ≤ l.most) ⊎ (l.before ≡ clock_of l.from l.n)) × (clock_of l.from l.n ≤ l.before)
