use Rattle.pr_gen.proofs.Scripts.{reads}
use Rattle.pr_gen.proofs.law.printed_workloads_read_back.Goals as goal

pub returns : goal.returns
returns c seed size h = reads seed size h
