use Rattle.pr_merge.proofs.Phasing.{phases_merge}
use Rattle.pr_merge.proofs.law.jobs_by_time_are_a_phase.Goals as goal

pub returns : goal.returns
returns c = phases_merge
