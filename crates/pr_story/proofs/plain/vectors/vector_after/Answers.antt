use Rattle.std.proofs.Common.{ℕ, List, ◌∙◌, ap}
use Rattle.pr_vectors.specs.Vector.{join_of}
use Rattle.pr_story.proofs.VectorsNow.{raised_more, joined_more}
use Rattle.pr_story.proofs.plain.vectors.vector_after.Goals as goal

pub returns-in-Wrote : goal.returns-in-Wrote
returns-in-Wrote c = λ j is. rw c.in-Wrote.is (raised_more j c.args.vector.now c.raise.new.self c.in-Wrote.write.stamp c.raise.ensures is)

pub returns-in-Accepted : goal.returns-in-Accepted
returns-in-Accepted c = λ j is. rw c.in-Accepted.is (joined_more j c.args.vector.now c.join.result _ (c.join.ensures ∙ ap (λ (v : List ℕ). join_of c.args.vector.now v) c.end_of.ensures) is)
