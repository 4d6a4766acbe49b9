use Rattle.pr_inval.specs.Standing.{means}
use Rattle.pr_flow.specs.Ending.{GoesOn}
use Rattle.pr_flow.specs.Flows.{Leads}
use Rattle.pr_flow.proofs.flowing.flow.Given as goal

abbrev pub invariant-loop-left : goal.invariant-loop-left
invariant-loop-left g l =
    let a = g.A.Side in
    let b = g.B.Side in
    let w = g.W.Wire in
    record {
      leads : Leads a.made a.act b.made b.act (means l.initial.session).stream l.turns l.left
          (record { source = l.initial.source; destination = l.initial.dest; session = means l.initial.session })
          (record { source = l.source; destination = l.dest; session = means l.session })
          (w.state l.initial.wire).given (w.state l.wire).given (w.state l.initial.wire).taken (w.state l.wire).taken;
      on : GoesOn (w.state l.initial.wire) (w.state l.wire) (means l.initial.session) (means l.session);
    }

abbrev pub decreases-loop-left : goal.decreases-loop-left
decreases-loop-left g l = l.left
