use Rattle.std.specs.Prelude.{reverse}
use Rattle.pr_sets.specs.Spans.{has}
use Rattle.pr_story.specs.Told.{IsTold}
use Rattle.pr_story.proofs.Points.{AreRuns}
use Rattle.pr_story.proofs.plain.told.last_precise.Given as goal

abbrev pub invariant-loop-n : goal.invariant-loop-n
invariant-loop-n l = AreRuns (IsTold l.node (reverse l.entries) (has l.set)) l.vector l.last l.n
