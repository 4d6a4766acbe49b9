use Rattle.pr_story.proofs.Phases.{phase_jobs_merge}
use Rattle.pr_story.proofs.law.phase_jobs_merge.Goals as goal

pub returns : goal.returns
returns c = phase_jobs_merge
