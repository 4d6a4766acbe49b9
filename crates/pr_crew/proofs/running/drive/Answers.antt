use Rattle.std.proofs.Common.{sym, subst}
use Rattle.pr_crew.specs.Flowing.{FlowEndsOver}
use Rattle.pr_crew.specs.Tasks.{IsSoundWire}
use Rattle.pr_crew.proofs.running.drive.Goals as goal

pub returns-in-None-clause-done : goal.returns-in-None-clause-done
returns-in-None-clause-done g c plan h s k begins =
    subst
    (λ wire.
    FlowEndsOver g.W.Wire.state wire plan h s c.args.work.now.turns k c.args.source.now c.args.destination.now c.args.source.now c.unconnected.new.destination c.unconnected.new.session c.unconnected.result)
    (sym c.in-None.is) (c.unconnected.ensures.done plan h s c.args.work.now.turns k c.args.source.now begins)

pub returns-in-None-clause-sound : goal.returns-in-None-clause-sound
returns-in-None-clause-sound g c sound = absurd (subst (λ wire. IsSoundWire g.W.Wire.state wire) c.in-None.is sound)
