use Rattle.pr_check.specs.Standing.{IsUsable}
use Rattle.pr_check.proofs.tests.judged.Given as goal

abbrev pub invariant-loop-at : goal.invariant-loop-at
invariant-loop-at l = IsUsable l.judge
