use Rattle.pr_sim.proofs.Represented.{represents, runs}
use Rattle.pr_sim.proofs.holding.running_engines_represent.Goals as goal

pub returns : goal.returns
returns c d attached h e = (represents d attached h e, runs d attached h e)
