use Rattle.std.proofs.Common.{◌≡◌, ◌++◌, drop}
use Rattle.pr_story.specs.Marking.{pairs_of}
use Rattle.pr_story.proofs.plain.pairs.pairs_among.Given as goal

abbrev pub invariant-loop-earlier : goal.invariant-loop-earlier
invariant-loop-earlier l = l.pairs ++ pairs_of (drop l.earlier-index l.marks) l.marks ≡ pairs_of l.marks l.marks
