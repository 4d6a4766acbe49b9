use Rattle.std.proofs.Common.{◌≡◌, ◌++◌, drop}
use Rattle.pr_story.specs.Marking.{names_past}
use Rattle.pr_story.proofs.plain.ordered.add_past.Given as goal

abbrev pub invariant-loop-other : goal.invariant-loop-other
invariant-loop-other l = l.list ++ names_past (drop l.other-index l.names) l.name ≡ l.initial.list ++ names_past l.names l.name
