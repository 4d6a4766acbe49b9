use Rattle.std.specs.Prelude.{take, reverse}
use Rattle.pr_story.specs.Search.{IsUnlit}
use Rattle.pr_story.proofs.plain.withheld.unlit.Given as goal

abbrev pub invariant-loop-entry : goal.invariant-loop-entry
invariant-loop-entry l = IsUnlit (reverse (take l.entry-index l.entries)) l.point l.dark
