use Rattle.std.proofs.Common.{◌≤◌, ◌-◌}
use Rattle.pr_node.specs.Stored.{means}
use Rattle.pr_serve.specs.Inputs.{input}
use Rattle.pr_serve.specs.Sinks.{sink}
use Rattle.pr_serve.proofs.PullEnds.{read_ahead}
use Rattle.pr_serve.proofs.ServeEnds.{Sofar}
use Rattle.pr_serve.proofs.serving.serve_rest.Given as goal

abbrev pub invariant-loop-ask : goal.invariant-loop-ask
invariant-loop-ask g l =
    let left = g.S.Source.left in
    let faults = g.S.Source.faults in
    let text = g.K.Sink.text in
    let failed = g.K.Sink.faults in
    record {
      sofar : Sofar (input (left l.fn.source) (faults l.fn.source) (read_ahead l.ahead)) (input (left l.source) (faults l.source) l.window) (means l.fn.node) (means l.node)
          (sink (text l.fn.out) (failed l.fn.out)) (sink (text l.out) (failed l.out)) l.count;
      most : l.window.taken ≤ 67108864;
    }

abbrev pub decreases-loop-ask : goal.decreases-loop-ask
decreases-loop-ask g l = 67108864 - l.window.taken
