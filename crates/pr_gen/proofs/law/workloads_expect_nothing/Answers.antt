use Rattle.pr_gen.proofs.Runs.{nothing_unmet}
use Rattle.pr_gen.proofs.law.workloads_expect_nothing.Goals as goal

pub returns : goal.returns
returns c seed size es parts = nothing_unmet seed size es parts
