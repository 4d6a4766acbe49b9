use Rattle.pr_story.proofs.Foreign.{honest_keeps_closed}
use Rattle.pr_story.proofs.law.honest_messages_keep_closed.Goals as goal

pub returns : goal.returns
returns c = honest_keeps_closed
