use Rattle.std.specs.Prelude.{◌<◌, ℕ, reverse}
use Rattle.pr_sets.specs.Spans.{has}
use Rattle.pr_vectors.specs.Vector.{Covers}
use Rattle.pr_story.specs.Search.{point}
use Rattle.pr_story.specs.Told.{IsTold}
use Rattle.pr_story.proofs.plain.told.untold_at.Given as goal

abbrev pub invariant-loop-n : goal.invariant-loop-n
invariant-loop-n l = (m : ℕ) → m < l.n → Covers l.vector (point l.clock m) → IsTold l.node (reverse l.entries) (has l.set) (point l.clock m)
