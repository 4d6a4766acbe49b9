use Rattle.pr_crew.proofs.Assembly.{phases_assembled}
use Rattle.pr_crew.proofs.law.phases_are_assembled.Goals as goal

pub returns : goal.returns
returns c = phases_assembled
