use Rattle.pr_crew.proofs.Here.{none_here}
use Rattle.pr_crew.proofs.phasing.is_here.Goals as goal

pub returns-in-None : goal.returns-in-None
returns-in-None g c = none_here (g.H.Held.state c.args.held.now).nodes c.args.node c.requires c.in-None.ensures
