use Rattle.pr_top.proofs.Repeated.{runs_repeat}
use Rattle.pr_top.proofs.law.runs_repeat.Goals as goal

pub returns : goal.returns
returns c = runs_repeat
