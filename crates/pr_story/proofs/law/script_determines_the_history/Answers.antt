use Rattle.pr_story.proofs.OneThread.{script_determines}
use Rattle.pr_story.proofs.law.script_determines_the_history.Goals as goal

pub returns : goal.returns
returns c = script_determines
