use Rattle.std.specs.Prelude.{take, reverse}
use Rattle.pr_story.specs.Search.{IsKnownAt}
use Rattle.pr_story.proofs.plain.writes.known_write.Given as goal

abbrev pub invariant-loop-entry : goal.invariant-loop-entry
invariant-loop-entry l = IsKnownAt (reverse (take l.entry-index l.entries)) l.stamp l.known
