use Rattle.pr_merge.proofs.Turns.{one_merged}
use Rattle.pr_merge.proofs.law.one_merged_order.Goals as goal

pub returns : goal.returns
returns c = one_merged
