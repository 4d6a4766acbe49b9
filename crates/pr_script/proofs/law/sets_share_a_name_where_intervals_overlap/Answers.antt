use Rattle.pr_script.proofs.Sharing.{shares}
use Rattle.pr_script.proofs.law.sets_share_a_name_where_intervals_overlap.Goals as goal

pub returns : goal.returns
returns c = shares
