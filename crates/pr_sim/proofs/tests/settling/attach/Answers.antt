use Rattle.pr_story.specs.Commands.{ToAttach}
use Rattle.pr_sim.proofs.StillKept.{still_kept}
use Rattle.pr_sim.proofs.tests.settling.attach.Goals as goal

pub returns : goal.returns
returns c = still_kept (ToAttach c.args.stream) c.args.engine.now c.attach.new.self c.attach.result c.ok.result c.requires c.attach.ensures c.ok.ensures.value
