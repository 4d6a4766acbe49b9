use Rattle.std.proofs.Common.{None, Some, refl}
use Rattle.pr_inval.specs.Standing as Standing
use Rattle.pr_node.specs.Stored.{means}
use Rattle.pr_serve.specs.Faults.{fault_for}
use Rattle.pr_serve.specs.Sinks.{sink}
use Rattle.pr_serve.proofs.FrameParts.{is_stop}
use Rattle.pr_serve.proofs.Going.{made_as, none_is, turn_idle, turn_stopped, turn_unwritten, turn_written}
use Rattle.pr_serve.proofs.answering.turn.Goals as goal

pub returns-in_err-msg-clause-turned : goal.returns-in_err-msg-clause-turned
returns-in_err-msg-clause-turned g c left some =
    let text = g.K.Sink.text in
    let faults = g.K.Sink.faults in
    let x = means c.args.node.now in
    let y = means c.next_message.new.node in
    let s = Standing.means c.args.session.now in
    let t = Standing.means c.next_message.new.session in
    let a = sink (text c.args.out.now) (faults c.args.out.now) in
    let fault = c.in_err-msg.field-0.0 in
    turn_stopped x y s t a a left fault (fault_for fault) c.from_residual.result (is_stop c.from_residual.result _ (fault_for fault) c.from_residual.ensures (λ e p. p)) refl (c.in_err-msg.ensures.made left some)

pub returns-in_default-clause-turned : goal.returns-in_default-clause-turned
returns-in_default-clause-turned g c left some =
    let text = g.K.Sink.text in
    let faults = g.K.Sink.faults in
    let x = means c.args.node.now in
    let y = means c.next_message.new.node in
    let s = Standing.means c.args.session.now in
    let t = Standing.means c.next_message.new.session in
    let a = sink (text c.args.out.now) (faults c.args.out.now) in
    turn_idle x y s t a a left (made_as x y s t left c.in_ok-msg.field-0 None (none_is c.in_ok-msg.field-0 c.in_default.not-Some) (c.in_ok-msg.ensures.made left some))

pub returns-in_err-write_frame-clause-turned : goal.returns-in_err-write_frame-clause-turned
returns-in_err-write_frame-clause-turned g c left some =
    let text = g.K.Sink.text in
    let faults = g.K.Sink.faults in
    let x = means c.args.node.now in
    let y = means c.next_message.new.node in
    let s = Standing.means c.args.session.now in
    let t = Standing.means c.next_message.new.session in
    let a = sink (text c.args.out.now) (faults c.args.out.now) in
    let b = sink (text c.write_frame.new.out) (faults c.write_frame.new.out) in
    let m = c.in-Some.msg in
    let fault = c.in_err-write_frame.field-0.0 in
    turn_unwritten x y s t a b left m fault c.from_residual-in_err-write_frame.result (is_stop c.from_residual-in_err-write_frame.result _ fault c.from_residual-in_err-write_frame.ensures (λ e p. p))
    (made_as x y s t left c.in_ok-msg.field-0 (Some m) c.in-Some.is (c.in_ok-msg.ensures.made left some)) c.in_err-write_frame.ensures

pub returns-clause-turned : goal.returns-clause-turned
returns-clause-turned g c left some =
    let text = g.K.Sink.text in
    let faults = g.K.Sink.faults in
    let x = means c.args.node.now in
    let y = means c.next_message.new.node in
    let s = Standing.means c.args.session.now in
    let t = Standing.means c.next_message.new.session in
    let a = sink (text c.args.out.now) (faults c.args.out.now) in
    let b = sink (text c.write_frame.new.out) (faults c.write_frame.new.out) in
    let m = c.in-Some.msg in
    turn_written x y s t a b left m (made_as x y s t left c.in_ok-msg.field-0 (Some m) c.in-Some.is (c.in_ok-msg.ensures.made left some)) c.in_ok-write_frame.ensures
