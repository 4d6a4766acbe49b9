use Rattle.pr_story.proofs.Phases.{jobs_are_runs}
use Rattle.pr_story.proofs.law.jobs_are_runs.Goals as goal

pub returns : goal.returns
returns c = jobs_are_runs
