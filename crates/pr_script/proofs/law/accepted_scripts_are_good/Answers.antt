use Rattle.pr_script.proofs.GoodScripts.{are_good}
use Rattle.pr_script.proofs.law.accepted_scripts_are_good.Goals as goal

pub returns : goal.returns
returns c = are_good
