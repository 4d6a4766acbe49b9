use Rattle.pr_serve.proofs.PulledLaws.{sent_stay_valid}
use Rattle.pr_serve.proofs.law.pulled_messages_keep_valid.Goals as goal

pub returns : goal.returns
returns c = sent_stay_valid
