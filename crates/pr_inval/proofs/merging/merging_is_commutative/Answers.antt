use Rattle.pr_inval.proofs.Merges.{commutative}
use Rattle.pr_inval.proofs.merging.merging_is_commutative.Goals as goal

pub returns : goal.returns
returns c = commutative
