use Rattle.pr_serve.proofs.PulledLaws.{honest_stay_closed}
use Rattle.pr_serve.proofs.law.honest_messages_stay_closed.Goals as goal

pub returns : goal.returns
returns c = honest_stay_closed
