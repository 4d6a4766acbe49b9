use Rattle.pr_inval.proofs.Merges.{covers}
use Rattle.pr_inval.proofs.merging.merged_cover_what_either_covers.Goals as goal

pub returns : goal.returns
returns c = covers
