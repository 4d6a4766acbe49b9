use Rattle.std.proofs.Common.{◌≤◌}
use Rattle.pr_vectors.specs.Vector.{zero_vector}
use Rattle.pr_log.specs.Known.{uncovered}
use Rattle.pr_log.proofs.tests.long_log.Given as goal

abbrev pub invariant-loop-told : goal.invariant-loop-told
invariant-loop-told l = uncovered l.log.known zero_vector ≤ l.told
