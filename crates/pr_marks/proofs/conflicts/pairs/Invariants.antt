use Rattle.pr_marks.proofs.Looked.{IsLooked}
use Rattle.pr_marks.proofs.conflicts.pairs.Given as goal

abbrev pub invariant-loop-count : goal.invariant-loop-count
invariant-loop-count l = IsLooked l.marks l.count l.later.items l.pairs.items

abbrev pub decreases-loop-count : goal.decreases-loop-count
decreases-loop-count l = l.count
