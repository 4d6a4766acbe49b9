use Rattle.pr_sim.proofs.Goods.{attached_together, good_can_run}
use Rattle.pr_sim.proofs.stepping.good_commands_can_be_run.Goals as goal

pub returns-clause-can : goal.returns-clause-can
returns-clause-can c = good_can_run

pub returns-clause-attached : goal.returns-clause-attached
returns-clause-attached c = attached_together
