use Rattle.std.specs.Prelude.{◌≡◌, take, reverse}
use Rattle.pr_story.specs.Knowledge.{floor_of}
use Rattle.pr_story.proofs.plain.vectors.floor_of.Given as goal

abbrev pub invariant-loop-entry : goal.invariant-loop-entry
invariant-loop-entry l = l.floor ≡ floor_of (reverse (take l.entry-index l.entries))
