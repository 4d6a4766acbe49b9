use Rattle.std.specs.Prelude.{take, reverse}
use Rattle.pr_story.specs.Sending.{IsNamedList}
use Rattle.pr_story.proofs.plain.names.names_known.Given as goal

abbrev pub invariant-loop-entry : goal.invariant-loop-entry
invariant-loop-entry l = IsNamedList (reverse (take l.entry-index l.entries)) l.names
