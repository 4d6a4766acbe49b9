use Rattle.pr_text.proofs.Apart.{phases_apart, scripts_apart}
use Rattle.pr_text.proofs.law.phases_have_apart_jobs.Goals as goal

pub returns-clause-phases : goal.returns-clause-phases
returns-clause-phases c = phases_apart

pub returns-clause-scripts : goal.returns-clause-scripts
returns-clause-scripts c = scripts_apart
