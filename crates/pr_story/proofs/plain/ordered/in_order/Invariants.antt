use Rattle.std.specs.Prelude.{take}
use Rattle.pr_story.specs.Marking.{AreInOrder}
use Rattle.pr_story.proofs.plain.ordered.in_order.Given as goal

abbrev pub invariant-loop-name : goal.invariant-loop-name
invariant-loop-name l = AreInOrder (take l.name-index l.names) l.ordered
