use Rattle.pr_story.proofs.Counts.{histories_name}
use Rattle.pr_story.proofs.law.histories_name_what_is_declared.Goals as goal

pub returns : goal.returns
returns c = histories_name
