use Rattle.pr_merge.proofs.Standing.{merged_stand_by_time}
use Rattle.pr_merge.proofs.law.merged_entries_stand_by_time.Goals as goal

pub returns : goal.returns
returns c = merged_stand_by_time
