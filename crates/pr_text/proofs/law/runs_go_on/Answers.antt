use Rattle.pr_text.proofs.RunsOn.{expects_more, gives_more}
use Rattle.pr_text.proofs.law.runs_go_on.Goals as goal

pub returns-clause-lines : goal.returns-clause-lines
returns-clause-lines c = gives_more

pub returns-clause-expectations : goal.returns-clause-expectations
returns-clause-expectations c = expects_more
