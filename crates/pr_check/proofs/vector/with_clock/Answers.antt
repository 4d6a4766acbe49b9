use Rattle.pr_text.specs.Numbers.{nodes_of}
use Rattle.pr_check.proofs.VectorLoops.{raised_declared}
use Rattle.pr_check.proofs.vector.with_clock.Goals as goal

pub returns-clause-declared : goal.returns-clause-declared
returns-clause-declared c =
    rw c.raise.ensures (raised_declared (nodes_of c.args.decls.now) c.args.vector c.in_ok-stamp.stamp c.requires.declared c.in_ok-stamp.ensures.declared)
