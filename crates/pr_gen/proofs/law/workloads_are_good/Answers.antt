use Rattle.pr_gen.proofs.Runs.{good}
use Rattle.pr_gen.proofs.law.workloads_are_good.Goals as goal

pub returns : goal.returns
returns c seed size h = good seed size h
