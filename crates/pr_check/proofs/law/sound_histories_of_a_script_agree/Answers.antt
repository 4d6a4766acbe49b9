use Rattle.pr_check.proofs.Determined.{sound_histories_agree}
use Rattle.pr_check.proofs.law.sound_histories_of_a_script_agree.Goals as goal

pub returns : goal.returns
returns c = sound_histories_agree
