use Rattle.std.proofs.Common.{refl, subst}
use Rattle.pr_inval.specs.declared.msg.Msg.{Msg}
use Rattle.pr_inval.specs.declared.node_fault.NodeFault.TheVariants.{NoMemory}
use Rattle.pr_inval.specs.declared.step.Step.TheVariants as steps
use Rattle.pr_inval.specs.Standing.{means}
use Rattle.pr_flow.specs.declared.carrying.Carried.{Carried}
use Rattle.pr_flow.specs.Moving.{HasCarried}
use Rattle.pr_flow.specs.Taking.{Takes}
use Rattle.pr_flow.proofs.Answering.{cut_flows, has_made, is_fault, memory_flows, refused_flows, taken_flows}
use Rattle.pr_flow.proofs.Growing.{is_no_beginning}
use Rattle.pr_flow.proofs.Turns.{idle_leads, lied_ends, stale_ends}
use Rattle.pr_flow.proofs.flowing.turn.Goals as goal

pub returns-in_err-turn-clause-flowed : goal.returns-in_err-turn-clause-flowed
returns-in_err-turn-clause-flowed g c turns some =
    let x = g.A.Side in
    let y = g.B.Side in
    let w = g.W.Wire in
    let e = c.in_err-turn.ensures in
    let fault = c.in_err-turn.field-0.0 in
    refused_flows x.made x.act y.made y.act turns c.args.source.now c.turn.new.self c.args.dest.now (means c.args.session.now) (means c.turn.new.session) (w.state c.args.wire.now).given (w.state c.args.wire.now).taken fault c.from_residual.result some
    (record { act = e.act; made = e.made.0; session = e.made.1 })
    (is_fault c.from_residual.result _ fault c.from_residual.ensures (λ f p. p))

pub returns-in-Idle-clause-flowed : goal.returns-in-Idle-clause-flowed
returns-in-Idle-clause-flowed g c turns some =
    let x = g.A.Side in
    let y = g.B.Side in
    let w = g.W.Wire in
    let e = c.in_ok-turn.ensures in
    let before = means c.args.session.now in
    let after = means c.turn.new.session in
    let made = has_made x.made x.act y.made y.act c.args.source.now c.turn.new.self before after c.in_ok-turn.field-0 steps.Idle e.made e.act c.in-Idle.is in
    idle_leads x.made x.act y.made y.act before.stream turns c.args.source.now c.turn.new.self c.args.dest.now before after (w.state c.args.wire.now).given (w.state c.args.wire.now).taken made.1.0 made.1.1 some made.1.2

pub returns-in-Stale-clause-flowed : goal.returns-in-Stale-clause-flowed
returns-in-Stale-clause-flowed g c turns some =
    let x = g.A.Side in
    let y = g.B.Side in
    let w = g.W.Wire in
    let e = c.in_ok-turn.ensures in
    let before = means c.args.session.now in
    let after = means c.turn.new.session in
    let made = has_made x.made x.act y.made y.act c.args.source.now c.turn.new.self before after c.in_ok-turn.field-0 (steps.Stale c.in-Stale.cut) e.made e.act c.in-Stale.is in
    stale_ends x.made x.act y.made y.act before.stream turns c.args.source.now c.turn.new.self c.args.dest.now before after (w.state c.args.wire.now).given (w.state c.args.wire.now).taken made.1.0 made.1.1 c.in-Stale.cut some made.1.2

pub returns-in_err-msg-clause-flowed : goal.returns-in_err-msg-clause-flowed
returns-in_err-msg-clause-flowed g c turns some =
    let x = g.A.Side in
    let y = g.B.Side in
    let w = g.W.Wire in
    let e = c.in_ok-turn.ensures in
    let before = means c.args.session.now in
    let after = means c.turn.new.session in
    let made = has_made x.made x.act y.made y.act c.args.source.now c.turn.new.self before after c.in_ok-turn.field-0 (steps.Sent c.in-Sent.msg) e.made e.act c.in-Sent.is in
    let moved = c.in_err-msg.ensures.moved in
    memory_flows x.made x.act y.made y.act turns c.args.source.now c.turn.new.self c.args.dest.now before after c.in-Sent.msg (w.state c.args.wire.now).given (w.state c.carry-carried.new.wire).given (w.state c.args.wire.now).taken (w.state c.carry-carried.new.wire).taken moved.0 moved.1 c.from_residual-in_err-msg.result some made moved.3 moved.2.given moved.2.taken
    (is_fault c.from_residual-in_err-msg.result _ NoMemory c.from_residual-in_err-msg.ensures (λ f p. p))

pub returns-in-Whole-clause-flowed : goal.returns-in-Whole-clause-flowed
returns-in-Whole-clause-flowed g c turns some =
    let x = g.A.Side in
    let y = g.B.Side in
    let w = g.W.Wire in
    let e = c.in_ok-turn.ensures in
    let before = means c.args.session.now in
    let between = means c.turn.new.session in
    let after = means c.take.new.session in
    let m = c.in-Sent.msg in
    let a = w.state c.args.wire.now in
    let d = w.state c.carry-carried.new.wire in
    let made = has_made x.made x.act y.made y.act c.args.source.now c.turn.new.self before between c.in_ok-turn.field-0 (steps.Sent m) e.made e.act c.in-Sent.is in
    let moved = subst (λ (k : Carried). HasCarried a d m k) c.in-Whole.is c.in_ok-msg.ensures.moved in
    let takes = subst (λ (n : Msg). Takes y.made y.act c.args.dest.now between n c.take.new.dest after c.take.result) moved.0 c.take.ensures in
    taken_flows x.made x.act y.made y.act turns c.args.source.now c.turn.new.self c.args.dest.now c.take.new.dest before between after m (w.state c.args.wire.now).given (w.state c.carry-carried.new.wire).given (w.state c.args.wire.now).taken (w.state c.carry-carried.new.wire).taken some made c.take.result takes moved.1.given moved.1.taken

pub returns-in-Cut-clause-flowed : goal.returns-in-Cut-clause-flowed
returns-in-Cut-clause-flowed g c turns some =
    let x = g.A.Side in
    let y = g.B.Side in
    let w = g.W.Wire in
    let e = c.in_ok-turn.ensures in
    let before = means c.args.session.now in
    let between = means c.turn.new.session in
    let after = means c.down.new.session in
    let m = c.in-Sent.msg in
    let cause = c.in-Cut.cause in
    let a = w.state c.args.wire.now in
    let d = w.state c.carry-carried.new.wire in
    let made = has_made x.made x.act y.made y.act c.args.source.now c.turn.new.self before between c.in_ok-turn.field-0 (steps.Sent m) e.made e.act c.in-Sent.is in
    let moved = subst (λ (k : Carried). HasCarried a d m k) c.in-Cut.is c.in_ok-msg.ensures.moved in
    cut_flows x.made x.act y.made y.act turns c.args.source.now c.turn.new.self c.args.dest.now c.down.new.dest before between after m (w.state c.args.wire.now).given (w.state c.carry-carried.new.wire).given (w.state c.args.wire.now).taken (w.state c.carry-carried.new.wire).taken some made cause a d c.down.result refl refl refl refl moved.0 moved.1 c.down.ensures

pub returns-in-Lied-clause-flowed : goal.returns-in-Lied-clause-flowed
returns-in-Lied-clause-flowed g c turns some =
    let x = g.A.Side in
    let y = g.B.Side in
    let w = g.W.Wire in
    let e = c.in_ok-turn.ensures in
    let before = means c.args.session.now in
    let after = means c.turn.new.session in
    let m = c.in-Sent.msg in
    let a = w.state c.args.wire.now in
    let d = w.state c.carry-carried.new.wire in
    let made = has_made x.made x.act y.made y.act c.args.source.now c.turn.new.self before after c.in_ok-turn.field-0 (steps.Sent m) e.made e.act c.in-Sent.is in
    let moved = subst (λ (k : Carried). HasCarried a d m k) c.in-Lied.is c.in_ok-msg.ensures.moved in
    let other = moved.1 in
    lied_ends x.made x.act y.made y.act before.stream turns c.args.source.now c.turn.new.self c.args.dest.now before after m (w.state c.args.wire.now).given (w.state c.carry-carried.new.wire).given (w.state c.args.wire.now).taken (w.state c.carry-carried.new.wire).taken made.1.0 made.1.1 some made.0 made.1.2 other.0 c.in-Lied.sent c.in-Lied.got moved.0 other.2 (is_no_beginning a d c.in-Lied.sent c.in-Lied.got c.requires.under other) other.1.given other.1.taken
