use Rattle.std.proofs.Common.{subst}
use Rattle.pr_inval.specs.declared.step.Step.{Step}
use Rattle.pr_inval.specs.declared.step.Step.TheVariants as steps
use Rattle.pr_inval.specs.Standing as Standing
use Rattle.pr_node.specs.Grammar.{IsStepSpelled}
use Rattle.pr_node.specs.Stored.{means}
use Rattle.pr_serve.proofs.AnswerParts.{goes_on, idle_made, made_is, sent_made, snapshot_made, snapshot_refused, step_is, turn_refused}
use Rattle.pr_serve.proofs.Scans.{scan_snapshot}
use Rattle.pr_serve.proofs.FrameParts.{is_stop}
use Rattle.pr_serve.proofs.answering.next_message.Goals as goal

pub checkpoint-requires : goal.checkpoint-requires
checkpoint-requires c =
    goes_on (means c.args.node.now) (means c.turn_from.new.self) (Standing.means c.args.session.now) (Standing.means c.turn_from.new.session) c.in_ok-turn_from.field-0 c.in_ok-turn_from.ensures.ok

pub returns-in_err-turn_from-clause-made : goal.returns-in_err-turn_from-clause-made
returns-in_err-turn_from-clause-made c left some =
    let fault = c.in_err-turn_from.field-0.0 in
    made_is (means c.args.node.now) (means c.turn_from.new.self) (Standing.means c.args.session.now) (Standing.means c.turn_from.new.session) left c.from_residual.result fault
    (is_stop c.from_residual.result _ fault c.from_residual.ensures (λ e p. p))
    (turn_refused (means c.args.node.now) (means c.turn_from.new.self) (Standing.means c.args.session.now) (Standing.means c.turn_from.new.session) left some fault c.requires.timely c.in_err-turn_from.ensures.fault)

pub returns-in_err-msg-in-Stale-clause-made : goal.returns-in_err-msg-in-Stale-clause-made
returns-in_err-msg-in-Stale-clause-made c left some =
    let x = means c.args.node.now in
    let y = means c.turn_from.new.self in
    let z = means c.checkpoint.new.self in
    let s = Standing.means c.args.session.now in
    let t = Standing.means c.turn_from.new.session in
    let u = Standing.means c.checkpoint.new.session in
    let fault = c.in_err-msg-in-Stale.field-0.0 in
    made_is x z s u left c.from_residual-in_err-msg-in-Stale.result fault (is_stop c.from_residual-in_err-msg-in-Stale.result _ fault c.from_residual-in_err-msg-in-Stale.ensures (λ e p. p))
    (snapshot_refused x y s t left some z u c.in-Stale.cut (step_is x y s t c.in_ok-turn_from.field-0 (steps.Stale c.in-Stale.cut) c.in-Stale.is c.in_ok-turn_from.ensures.ok) fault c.in_err-msg-in-Stale.ensures.fault)

pub returns-in-Idle-clause-made : goal.returns-in-Idle-clause-made
returns-in-Idle-clause-made c left some =
    let x = means c.args.node.now in
    let y = means c.turn_from.new.self in
    let s = Standing.means c.args.session.now in
    let t = Standing.means c.turn_from.new.session in
    idle_made x y s t left some (step_is x y s t c.in_ok-turn_from.field-0 steps.Idle c.in-Idle.is c.in_ok-turn_from.ensures.ok)

pub returns-in-Sent-clause-made : goal.returns-in-Sent-clause-made
returns-in-Sent-clause-made c left some =
    let x = means c.args.node.now in
    let y = means c.turn_from.new.self in
    let s = Standing.means c.args.session.now in
    let t = Standing.means c.turn_from.new.session in
    sent_made x y s t left some c.in-Sent.msg (step_is x y s t c.in_ok-turn_from.field-0 (steps.Sent c.in-Sent.msg) c.in-Sent.is c.in_ok-turn_from.ensures.ok) (subst (λ (k : Step). IsStepSpelled k) c.in-Sent.is c.in_ok-turn_from.ensures.grammar)

pub returns-in_ok-msg-in-Stale-clause-made : goal.returns-in_ok-msg-in-Stale-clause-made
returns-in_ok-msg-in-Stale-clause-made c left some =
    let x = means c.args.node.now in
    let y = means c.turn_from.new.self in
    let z = means c.checkpoint.new.self in
    let s = Standing.means c.args.session.now in
    let t = Standing.means c.turn_from.new.session in
    let u = Standing.means c.checkpoint.new.session in
    snapshot_made x y s t left some z u c.in-Stale.cut (step_is x y s t c.in_ok-turn_from.field-0 (steps.Stale c.in-Stale.cut) c.in-Stale.is c.in_ok-turn_from.ensures.ok) c.in_ok-msg-in-Stale.msg c.in_ok-msg-in-Stale.ensures.ok c.in_ok-msg-in-Stale.ensures.grammar

pub returns-in_ok-msg-in-Stale-clause-scan : goal.returns-in_ok-msg-in-Stale-clause-scan
returns-in_ok-msg-in-Stale-clause-scan c =
    scan_snapshot c.turn_from.new.scan (means c.turn_from.new.self) (means c.checkpoint.new.self) (Standing.means c.turn_from.new.session) (Standing.means c.checkpoint.new.session) c.in_ok-msg-in-Stale.msg _ c.in_ok-msg-in-Stale.ensures.ok c.turn_from.ensures.scan
