use Rattle.pr_check.proofs.Given.{given}
use Rattle.pr_check.proofs.law.events_are_given_by_what_lines_say.Goals as goal

pub returns : goal.returns
returns c = given
