use Rattle.pr_story.proofs.Worked.{worked}
use Rattle.pr_story.proofs.law.worked_histories_are_valid.Goals as goal

pub returns : goal.returns
returns c = worked
