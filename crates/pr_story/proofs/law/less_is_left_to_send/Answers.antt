use Rattle.pr_story.proofs.Remaining.{less_is_left}
use Rattle.pr_story.proofs.law.less_is_left_to_send.Goals as goal

pub returns : goal.returns
returns c = less_is_left
