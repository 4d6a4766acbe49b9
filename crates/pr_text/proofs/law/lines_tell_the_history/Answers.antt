use Rattle.pr_text.proofs.Histories.{lines_tell}
use Rattle.pr_text.proofs.law.lines_tell_the_history.Goals as goal

pub returns : goal.returns
returns c = lines_tell
