use Rattle.pr_sim.proofs.Goods.{good_phase_can_run}
use Rattle.pr_sim.proofs.jobs.good_phases_can_be_run.Goals as goal

pub returns : goal.returns
returns c = good_phase_can_run
