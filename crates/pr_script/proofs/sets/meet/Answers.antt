use Rattle.pr_script.proofs.Sharing.{share_is}
use Rattle.pr_script.proofs.sets.meet.Goals as goal

pub returns : goal.returns
returns c = share_is _ _ _ c.parts.ensures.set c.parts-2.ensures.set c.meets.ensures
