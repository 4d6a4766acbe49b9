use Rattle.pr_story.proofs.Nameless.{settles_tell}
use Rattle.pr_story.proofs.law.settles_tell.Goals as goal

pub returns : goal.returns
returns c = settles_tell
