use Rattle.pr_text.proofs.Runs.{runs_give}
use Rattle.pr_text.proofs.law.runs_are_histories.Goals as goal

pub returns : goal.returns
returns c = runs_give
