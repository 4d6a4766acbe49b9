use Rattle.std.specs.Prelude.{take, reverse}
use Rattle.pr_story.specs.Search.{IsNewestOf}
use Rattle.pr_story.proofs.plain.newest.newest_known.Given as goal

abbrev pub invariant-loop-entry : goal.invariant-loop-entry
invariant-loop-entry l = IsNewestOf (reverse (take l.entry-index l.entries)) l.name l.newest
