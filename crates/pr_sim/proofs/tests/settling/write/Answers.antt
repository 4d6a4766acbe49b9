use Rattle.std.specs.Prelude.{[], false}
use Rattle.pr_story.specs.Commands.{ToWrite}
use Rattle.pr_sim.proofs.StillKept.{still_kept}
use Rattle.pr_sim.proofs.tests.settling.write.Goals as goal

pub returns : goal.returns
returns c = still_kept (ToWrite c.args.client c.in_ok-name.name [] false) c.args.engine.now c.write.new.self c.write.result c.ok-2.result c.requires c.write.ensures c.ok-2.ensures.value
