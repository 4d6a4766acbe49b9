use Rattle.pr_script.proofs.WholeScript.{reads_back}
use Rattle.pr_script.proofs.law.printed_scripts_read_back.Goals as goal

pub returns : goal.returns
returns c = reads_back
