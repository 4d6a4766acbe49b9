use Rattle.std.specs.Prelude.{◌≤◌, reverse}
use Rattle.pr_stamps.specs.Point.{Point}
use Rattle.pr_sets.specs.Spans.{has}
use Rattle.pr_vectors.specs.Vector.{Covers}
use Rattle.pr_story.specs.Told.{IsTold}
use Rattle.pr_story.proofs.plain.told.first_untold.Given as goal

abbrev pub invariant-loop-before : goal.invariant-loop-before
invariant-loop-before l = (p : Point) → p.clock ≤ l.before → Covers l.vector p → IsTold l.node (reverse l.entries) (has l.set) p
