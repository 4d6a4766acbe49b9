use Rattle.std.specs.Prelude.{take, reverse}
use Rattle.pr_story.proofs.Writing.{IsNextAmong}
use Rattle.pr_story.proofs.plain.writes.next_write.Given as goal

abbrev pub invariant-loop-entry : goal.invariant-loop-entry
invariant-loop-entry l = IsNextAmong (reverse l.entries) (reverse (take l.entry-index l.entries)) l.names l.position l.next
