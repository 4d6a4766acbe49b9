use Rattle.std.specs.Prelude.{take, reverse}
use Rattle.pr_story.proofs.Withholding.{AreOmitted}
use Rattle.pr_story.proofs.plain.withheld.omitted_between.Given as goal

abbrev pub invariant-loop-entry : goal.invariant-loop-entry
invariant-loop-entry l = AreOmitted (reverse l.entries) (reverse (take l.entry-index l.entries)) l.names l.from l.to l.omitted
