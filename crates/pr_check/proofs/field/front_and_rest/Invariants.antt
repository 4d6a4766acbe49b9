use Rattle.pr_check.proofs.FieldLoops.{IsFrom}
use Rattle.pr_check.proofs.field.front_and_rest.Given as goal

abbrev pub invariant-loop-at : goal.invariant-loop-at
invariant-loop-at l = IsFrom l.bytes l.at l.quoted
