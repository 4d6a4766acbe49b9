use Rattle.std.specs.Prelude.{◌≡◌, take, reverse}
use Rattle.pr_story.specs.History.{current_vector}
use Rattle.pr_gen.proofs.summing.vector_of.Given as goal

abbrev pub invariant-loop-place : goal.invariant-loop-place
invariant-loop-place l = l.vector ≡ current_vector (reverse (take l.place l.journal.items))
