use Rattle.pr_check.proofs.VectorLoops.{zero_declared}
use Rattle.pr_check.proofs.vector.no_clocks.Goals as goal

pub returns-clause-declared : goal.returns-clause-declared
returns-clause-declared c = rw c.zero-vector.ensures zero_declared
