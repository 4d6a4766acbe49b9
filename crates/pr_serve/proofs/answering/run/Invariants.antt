use Rattle.pr_inval.specs.Standing as Standing
use Rattle.pr_node.specs.Scanning.{IsScanOf}
use Rattle.pr_node.specs.Stored.{means}
use Rattle.pr_serve.specs.Sinks.{sink}
use Rattle.pr_serve.proofs.Going.{HasCome}
use Rattle.pr_serve.proofs.answering.run.Given as goal

abbrev pub invariant-loop-left : goal.invariant-loop-left
invariant-loop-left g l =
    let text = g.K.Sink.text in
    let faults = g.K.Sink.faults in
    record {
      come : HasCome (means l.initial.node) (means l.node) (Standing.means l.initial.session) (Standing.means l.session)
          (sink (text l.initial.out) (faults l.initial.out)) (sink (text l.out) (faults l.out)) l.turns l.left;
      scan : IsScanOf l.scan (Standing.means l.session).standing (means l.node).journal;
    }

abbrev pub decreases-loop-left : goal.decreases-loop-left
decreases-loop-left g l = l.left
