use Rattle.std.proofs.Common.{◌≡◌, ◌++◌, drop}
use Rattle.pr_story.specs.Marking.{names_below}
use Rattle.pr_story.proofs.plain.ordered.add_below.Given as goal

abbrev pub invariant-loop-other : goal.invariant-loop-other
invariant-loop-other l = l.list ++ names_below (drop l.other-index l.names) l.name ≡ l.initial.list ++ names_below l.names l.name
