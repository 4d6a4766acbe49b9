use Rattle.std.specs.Prelude.{◌↔◌, IsTrue, take, reverse}
use Rattle.pr_sets.specs.Spans.{has}
use Rattle.pr_story.specs.Told.{TellsPoint}
use Rattle.pr_story.proofs.Points.{SomeKind}
use Rattle.pr_story.proofs.plain.told.one_tells.Given as goal

abbrev pub invariant-loop-entry : goal.invariant-loop-entry
invariant-loop-entry l = IsTrue l.told ↔ SomeKind (λ k. TellsPoint k (has l.set) l.point) (reverse (take l.entry-index l.entries))
