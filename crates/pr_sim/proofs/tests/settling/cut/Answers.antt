use Rattle.pr_story.specs.Commands.{ToCut}
use Rattle.pr_sim.proofs.StillKept.{still_kept}
use Rattle.pr_sim.proofs.tests.settling.cut.Goals as goal

pub returns : goal.returns
returns c = still_kept (ToCut c.args.node) c.args.engine.now c.cut.new.self c.cut.result c.ok.result c.requires c.cut.ensures c.ok.ensures.value
