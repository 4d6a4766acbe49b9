use Rattle.std.proofs.Common.{arith, true, false, ◌≤◌}
use Rattle.pr_inval.specs.Standing as Standing
use Rattle.pr_node.specs.Stored.{means}
use Rattle.pr_serve.specs.Sinks.{sink}
use Rattle.pr_serve.proofs.FrameParts.{is_stop}
use Rattle.pr_serve.proofs.Going.{breaks_on, comes_on, ends_idle, none_come, turned_as}
use Rattle.pr_serve.proofs.answering.run.Goals as goal

pub loop-left-init : goal.loop-left-init
loop-left-init g c = record {
  come = none_come (means c.args.node.now) (Standing.means c.args.session.now) (sink (g.K.Sink.text c.args.out.now) (g.K.Sink.faults c.args.out.now)) c.args.turns c.requires.attached c.requires.timely;
  scan = c.requires.scan;
}

pub returns-in_err-turn : goal.returns-in_err-turn
returns-in_err-turn g c =
    let text = g.K.Sink.text in
    let faults = g.K.Sink.faults in
    let l = c.loop-left in
    let n = c.turn.new in
    let some : 1 ≤ l.left = omega (arith, c.loop-left-test.true) in
    let fault = c.in_err-turn.field-0.0 in
    breaks_on (means c.args.node.now) (means l.node) (means n.node) (Standing.means c.args.session.now) (Standing.means l.session) (Standing.means n.session)
    (sink (text c.args.out.now) (faults c.args.out.now)) (sink (text l.out) (faults l.out)) (sink (text n.out) (faults n.out)) c.args.turns l.left l.invariant.come
    fault c.from_residual.result (is_stop c.from_residual.result _ fault c.from_residual.ensures (λ e p. p)) (c.in_err-turn.ensures.turned l.left some)

pub returns-in-false : goal.returns-in-false
returns-in-false g c =
    let text = g.K.Sink.text in
    let faults = g.K.Sink.faults in
    let l = c.loop-left in
    let n = c.turn.new in
    let some : 1 ≤ l.left = omega (arith, c.loop-left-test.true) in
    let y = means l.node in
    let z = means n.node in
    let t = Standing.means l.session in
    let u = Standing.means n.session in
    let b = sink (text l.out) (faults l.out) in
    let d = sink (text n.out) (faults n.out) in
    ends_idle (means c.args.node.now) y z (Standing.means c.args.session.now) t u (sink (text c.args.out.now) (faults c.args.out.now)) b d c.args.turns l.left l.invariant.come
    (turned_as y z t u b d l.left c.in_ok-turn.field-0 false c.in-false.is (c.in_ok-turn.ensures.turned l.left some))

pub loop-left-preserved : goal.loop-left-preserved
loop-left-preserved g c =
    let text = g.K.Sink.text in
    let faults = g.K.Sink.faults in
    let l = c.loop-left in
    let n = c.turn.new in
    let some : 1 ≤ l.left = omega (arith, c.loop-left-test.true) in
    let y = means l.node in
    let z = means n.node in
    let t = Standing.means l.session in
    let u = Standing.means n.session in
    let b = sink (text l.out) (faults l.out) in
    let d = sink (text n.out) (faults n.out) in
    record {
      come = comes_on (means c.args.node.now) y z (Standing.means c.args.session.now) t u (sink (text c.args.out.now) (faults c.args.out.now)) b d c.args.turns l.left l.invariant.come
          (turned_as y z t u b d l.left c.in_ok-turn.field-0 true c.in-true.is (c.in_ok-turn.ensures.turned l.left some));
      scan = c.in_ok-turn.ensures.scan;
    }
