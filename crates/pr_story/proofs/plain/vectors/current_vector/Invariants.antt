use Rattle.std.specs.Prelude.{◌≡◌, take, reverse}
use Rattle.pr_story.specs.History.{current_vector}
use Rattle.pr_story.proofs.plain.vectors.current_vector.Given as goal

abbrev pub invariant-loop-entry : goal.invariant-loop-entry
invariant-loop-entry l = l.vector ≡ current_vector (reverse (take l.entry-index l.entries))
