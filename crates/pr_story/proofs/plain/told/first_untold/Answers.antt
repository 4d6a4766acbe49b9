use Rattle.std.proofs.Common.{ℕ, List, ap, ◌∙◌, reverse, length}
use Rattle.pr_vectors.proofs.Vectors.{length-vector_of}
use Rattle.pr_sets.specs.Spans.{has}
use Rattle.pr_story.specs.Told.{IsTold}
use Rattle.pr_story.proofs.Points.{clock_more}
use Rattle.pr_story.proofs.plain.told.first_untold.Goals as goal

pub loop-before-preserved : goal.loop-before-preserved
loop-before-preserved c =
    clock_more (IsTold c.args.node (reverse c.args.entries.now) (has c.args.set.now)) c.current_vector-vector.result c.loop-before.before
    (ap (λ (v : List ℕ). length v) c.current_vector-vector.ensures ∙ length-vector_of _) c.loop-before.invariant c.in-None.ensures
