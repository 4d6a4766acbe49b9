use Rattle.std.proofs.Common.{◌∙◌}
use Rattle.pr_gen.specs.Topology.{client}
use Rattle.pr_gen.proofs.Each.{none_added, one_added}
use Rattle.pr_gen.proofs.topology.clients.Goals as goal

pub loop-i-init : goal.loop-i-init
loop-i-init c = none_added client c.args.decls.now.list

pub loop-i-preserved : goal.loop-i-preserved
loop-i-preserved c = c.in_ok-push.ensures.ok ∙ one_added client c.loop-i.i _ _ _ c.loop-i.invariant c.in_ok-client.ensures
