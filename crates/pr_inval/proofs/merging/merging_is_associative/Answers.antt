use Rattle.pr_inval.proofs.Merges.{associative}
use Rattle.pr_inval.proofs.merging.merging_is_associative.Goals as goal

pub returns : goal.returns
returns c = associative
