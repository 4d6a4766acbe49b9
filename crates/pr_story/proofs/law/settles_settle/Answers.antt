use Rattle.pr_story.proofs.Settling.{settles_settle}
use Rattle.pr_story.proofs.law.settles_settle.Goals as goal

pub returns : goal.returns
returns c = settles_settle
