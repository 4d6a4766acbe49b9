use Rattle.pr_crew.proofs.FlowEnding.{flow_done}
use Rattle.pr_crew.proofs.flow_job.flow_job.Goals as goal

pub returns-clause-done : goal.returns-clause-done
returns-clause-done g c plan h s k begins =
    let w = g.W.Wire in
    let a = w.state c.args.wire.now in
    let b = w.state c.flow.new.wire in
    flow_done plan h s k c.args.turns c.args.source.now c.args.dest.now c.flow.new.source c.flow.new.dest c.args.session.now c.flow.new.session a.given b.given a.taken b.taken c.flow.result c.requires.attached c.requires.unused.taken c.flow.ensures.flowed begins
