use Rattle.std.proofs.Common.{List, Option, subst, ℕ}
use Rattle.pr_node.specs.Stored.{means}
use Rattle.pr_serve.specs.Serving.{ServesSo}
use Rattle.pr_serve.specs.Sinks.{sink}
use Rattle.pr_serve.proofs.Taking.{none_ahead}
use Rattle.pr_serve.proofs.serving.serve.Goals as goal

pub returns-clause-so : goal.returns-clause-so
returns-clause-so g c =
    let left = g.S.Source.left in
    let faults = g.S.Source.faults in
    let text = g.K.Sink.text in
    let failed = g.K.Sink.faults in
    let n = c.serve_rest.new in
    subst (λ (l : Option (List ℕ)). ServesSo (record { left = l; faults = faults c.args.source.now; sink = sink (text c.args.out.now) (failed c.args.out.now); node = means c.args.node.now })
    (record { left = left n.source; faults = faults n.source; sink = sink (text n.out) (failed n.out); node = means n.node }) c.serve_rest.result)
    (none_ahead (left c.args.source.now)) c.serve_rest.ensures.so
