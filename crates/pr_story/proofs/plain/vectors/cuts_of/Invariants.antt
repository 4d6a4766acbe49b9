use Rattle.std.specs.Prelude.{◌≡◌, take, reverse}
use Rattle.pr_story.specs.Knowledge.{cuts_of}
use Rattle.pr_story.proofs.plain.vectors.cuts_of.Given as goal

abbrev pub invariant-loop-entry : goal.invariant-loop-entry
invariant-loop-entry l = l.cuts ≡ cuts_of (reverse (take l.entry-index l.entries))
