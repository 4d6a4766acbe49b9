use Rattle.std.proofs.Common.{◌≡◌, ◌++◌, drop}
use Rattle.pr_story.specs.Marking.{pairs_with}
use Rattle.pr_story.proofs.plain.pairs.add_pairs.Given as goal

abbrev pub invariant-loop-later : goal.invariant-loop-later
invariant-loop-later l = l.pairs ++ pairs_with l.earlier (drop l.later-index l.marks) ≡ l.initial.pairs ++ pairs_with l.earlier l.marks
