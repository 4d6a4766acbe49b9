use Rattle.std.proofs.Common.{List, subst, ℕ}
use Rattle.std.specs.Io.KnownBytes.{prepend_known}
use Rattle.pr_node.specs.Stored.{means}
use Rattle.pr_serve.specs.Serving.{ServesSo}
use Rattle.pr_serve.specs.Sinks.{sink}
use Rattle.pr_top.specs.Served.{server_at}
use Rattle.pr_top.proofs.ServedRuns.{asks_served, asks_stopped}
use Rattle.pr_top.proofs.serving.answer_asks.Goals as goal

pub returns-in-Ok : goal.returns-in-Ok
returns-in-Ok g c =
    let left = g.S.Source.left in
    let faults = g.S.Source.faults in
    let text = g.K.Sink.text in
    let failed = g.K.Sink.faults in
    let n = c.serve_rest-end.new in
    let a = sink (text c.args.out.now) (failed c.args.out.now) in
    let b = sink (text n.out) (failed n.out) in
    asks_served c.args.front.now.script c.args.number (prepend_known c.args.front.now.ahead (left c.args.source.now)) (faults c.args.source.now) a (left n.source) (faults n.source) b
    c.in-Ok.node (means n.node) c.serve_rest-end.result c.status_of.result c.in-Ok.ensures
    (subst (λ (t : List ℕ). ServesSo (server_at (prepend_known t (left c.args.source.now)) (faults c.args.source.now) a (means c.in-Ok.node)) (server_at (left n.source) (faults n.source) b (means n.node)) c.serve_rest-end.result) c.as_slice.ensures c.serve_rest-end.ensures.so)
    c.status_of.ensures

pub returns-in-Err : goal.returns-in-Err
returns-in-Err g c =
    let left = g.S.Source.left c.args.source.now in
    let faults = g.S.Source.faults c.args.source.now in
    let a = sink (g.K.Sink.text c.args.out.now) (g.K.Sink.faults c.args.out.now) in
    asks_stopped c.args.front.now.script c.args.number (prepend_known c.args.front.now.ahead left) faults a left faults c.in-Err.halt c.stop_of.result c.in-Err.ensures c.stop_of.ensures
