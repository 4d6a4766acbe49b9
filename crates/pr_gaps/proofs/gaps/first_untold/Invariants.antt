use Rattle.pr_gaps.specs.Gaps.{IsLeastOutside, IsToldIn}
use Rattle.pr_gaps.proofs.gaps.first_untold.Given as goal

abbrev pub invariant-loop-n : goal.invariant-loop-n
invariant-loop-n l = IsLeastOutside (IsToldIn l.own l.vector l.row) l.vector l.n l.least
