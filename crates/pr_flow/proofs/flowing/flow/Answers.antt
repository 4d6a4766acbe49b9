use Rattle.std.proofs.Common.{◌≤◌, arith, Ok}
use Rattle.pr_inval.specs.Standing.{means}
use Rattle.pr_flow.proofs.Answering.{is_fault}
use Rattle.pr_flow.specs.declared.flow_end.FlowEnd.TheVariants as ends
use Rattle.pr_flow.proofs.Keeping.{flow_keeps}
use Rattle.pr_flow.proofs.Whole.{ended, failed, finished, goes_more, goes_on, is_none, one_more}
use Rattle.pr_flow.proofs.flowing.flow.Goals as goal

pub returns-in_err-end-clause-flowed : goal.returns-in_err-end-clause-flowed
returns-in_err-end-clause-flowed g c =
    let a = g.A.Side in
    let b = g.B.Side in
    let w = g.W.Wire in
    let l = c.loop-left in
    let n = c.turn.new in
    let fault = c.in_err-end.field-0.0 in
    let some : 1 ≤ l.left = omega (arith, c.loop-left-test.true) in
    failed a.made a.act b.made b.act (means c.args.session.now).stream (means l.session).stream c.args.turns l.left
    (record { source = c.args.source.now; destination = c.args.dest.now; session = means c.args.session.now })
    (record { source = l.source; destination = l.dest; session = means l.session })
    (record { source = n.source; destination = n.dest; session = means n.session })
    (w.state c.args.wire.now).given (w.state l.wire).given (w.state n.wire).given (w.state c.args.wire.now).taken (w.state l.wire).taken (w.state n.wire).taken
    fault c.from_residual.result l.invariant.on.stream l.invariant.leads (c.in_err-end.ensures.flowed l.left some)
    (is_fault c.from_residual.result _ fault c.from_residual.ensures (λ f p. p))

pub returns-in-Some-clause-flowed : goal.returns-in-Some-clause-flowed
returns-in-Some-clause-flowed g c =
    let a = g.A.Side in
    let b = g.B.Side in
    let w = g.W.Wire in
    let l = c.loop-left in
    let n = c.turn.new in
    let some : 1 ≤ l.left = omega (arith, c.loop-left-test.true) in
    ended a.made a.act b.made b.act (means c.args.session.now).stream (means l.session).stream c.args.turns l.left
    (record { source = c.args.source.now; destination = c.args.dest.now; session = means c.args.session.now })
    (record { source = l.source; destination = l.dest; session = means l.session })
    (record { source = n.source; destination = n.dest; session = means n.session })
    (w.state c.args.wire.now).given (w.state l.wire).given (w.state n.wire).given (w.state c.args.wire.now).taken (w.state l.wire).taken (w.state n.wire).taken
    c.in_ok-end.field-0 c.in-Some.end l.invariant.on.stream l.invariant.leads (c.in_ok-end.ensures.flowed l.left some) c.in-Some.is

pub loop-left-preserved : goal.loop-left-preserved
loop-left-preserved g c =
    let a = g.A.Side in
    let b = g.B.Side in
    let w = g.W.Wire in
    let l = c.loop-left in
    let n = c.turn.new in
    let some : 1 ≤ l.left = omega (arith, c.loop-left-test.true) in
    let none = is_none c.in_ok-end.field-0 c.in_default.not-Some in
    let x = w.state c.args.wire.now in
    let y = w.state l.wire in
    let z = w.state n.wire in
    record {
      leads = one_more a.made a.act b.made b.act (means c.args.session.now).stream (means l.session).stream c.args.turns l.left
          (record { source = c.args.source.now; destination = c.args.dest.now; session = means c.args.session.now })
          (record { source = l.source; destination = l.dest; session = means l.session })
          (record { source = n.source; destination = n.dest; session = means n.session })
          (w.state c.args.wire.now).given (w.state l.wire).given (w.state n.wire).given (w.state c.args.wire.now).taken (w.state l.wire).taken (w.state n.wire).taken
          c.in_ok-end.field-0 l.invariant.on.stream l.invariant.leads (c.in_ok-end.ensures.flowed l.left some) none;
      on = goes_more x y z (means c.args.session.now) (means l.session) (means n.session) l.invariant.on (goes_on y z (means l.session) (means n.session) c.in_ok-end.field-0 c.in_ok-end.ensures.wire none);
    }

pub returns-clause-flowed : goal.returns-clause-flowed
returns-clause-flowed g c =
    let a = g.A.Side in
    let b = g.B.Side in
    let w = g.W.Wire in
    let l = c.loop-left in
    finished a.made a.act b.made b.act (means c.args.session.now).stream c.args.turns l.left
    (record { source = c.args.source.now; destination = c.args.dest.now; session = means c.args.session.now })
    (record { source = l.source; destination = l.dest; session = means l.session })
    (w.state c.args.wire.now).given (w.state l.wire).given (w.state c.args.wire.now).taken (w.state l.wire).taken
    (omega (arith, c.loop-left-test.false)) l.invariant.leads

pub returns-in_err-end-clause-session : goal.returns-in_err-end-clause-session
returns-in_err-end-clause-session g c =
    let a = g.A.Side in
    let b = g.B.Side in
    let w = g.W.Wire in
    let n = c.turn.new in
    flow_keeps a.made a.act b.made b.act (means c.args.session.now).stream c.args.turns
    (record { source = c.args.source.now; destination = c.args.dest.now; session = means c.args.session.now })
    (record { source = n.source; destination = n.dest; session = means n.session })
    (w.state c.args.wire.now).given (w.state n.wire).given (w.state c.args.wire.now).taken (w.state n.wire).taken c.from_residual.result (returns-in_err-end-clause-flowed g c)

pub returns-in-Some-clause-session : goal.returns-in-Some-clause-session
returns-in-Some-clause-session g c =
    let a = g.A.Side in
    let b = g.B.Side in
    let w = g.W.Wire in
    let n = c.turn.new in
    flow_keeps a.made a.act b.made b.act (means c.args.session.now).stream c.args.turns
    (record { source = c.args.source.now; destination = c.args.dest.now; session = means c.args.session.now })
    (record { source = n.source; destination = n.dest; session = means n.session })
    (w.state c.args.wire.now).given (w.state n.wire).given (w.state c.args.wire.now).taken (w.state n.wire).taken (Ok c.in-Some.end) (returns-in-Some-clause-flowed g c)

pub returns-clause-session : goal.returns-clause-session
returns-clause-session g c =
    let a = g.A.Side in
    let b = g.B.Side in
    let w = g.W.Wire in
    let n = c.loop-left in
    flow_keeps a.made a.act b.made b.act (means c.args.session.now).stream c.args.turns
    (record { source = c.args.source.now; destination = c.args.dest.now; session = means c.args.session.now })
    (record { source = n.source; destination = n.dest; session = means n.session })
    (w.state c.args.wire.now).given (w.state n.wire).given (w.state c.args.wire.now).taken (w.state n.wire).taken (Ok ends.Done) (returns-clause-flowed g c)
