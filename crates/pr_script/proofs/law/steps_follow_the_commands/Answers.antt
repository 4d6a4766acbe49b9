use Rattle.pr_script.proofs.Stepping.{step_alone, step_of_phase}
use Rattle.pr_script.proofs.law.steps_follow_the_commands.Goals as goal

pub returns-clause-alone : goal.returns-clause-alone
returns-clause-alone c = step_alone

pub returns-clause-phase : goal.returns-clause-phase
returns-clause-phase c = step_of_phase
