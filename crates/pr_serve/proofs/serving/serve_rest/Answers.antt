use Rattle.std.proofs.Common.{◌≡◌, ℕ, arith, subst, Option, Ok}
use Rattle.pr_node.specs.Stored.{means}
use Rattle.pr_serve.specs.declared.ask.Ask.{Ask}
use Rattle.pr_serve.specs.Asking.{IsNextAsk}
use Rattle.pr_serve.specs.Faults.{fault_at}
use Rattle.pr_serve.specs.Inputs.{input}
use Rattle.pr_serve.specs.Sinks.{sink}
use Rattle.pr_serve.proofs.FrameParts.{is_stop}
use Rattle.pr_serve.proofs.ServeEnds.{ask_has_bytes, broken_off, few, one_more, stopped}
use Rattle.pr_serve.proofs.serving.serve_rest.Goals as goal

pub returns-in-Err-clause-so : goal.returns-in-Err-clause-so
returns-in-Err-clause-so g c =
    let left = g.S.Source.left in
    let faults = g.S.Source.faults in
    let text = g.K.Sink.text in
    let failed = g.K.Sink.faults in
    let l = c.loop-ask in
    let n = c.next_ask.new in
    let why = c.in-Err.ensures.so in
    stopped c.args.ahead.now (left c.args.source.now) (left l.source) (faults c.args.source.now) (faults l.source) l.window (means c.args.node.now) (means l.node)
    (sink (text c.args.out.now) (failed c.args.out.now)) (sink (text l.out) (failed l.out)) l.count l.invariant.sofar
    (left n.source) (faults n.source) n.window why.0 c.in-Err.stop c.fault_of.result (subst (λ (at : ℕ). c.fault_of.result ≡ fault_at c.in-Err.stop at) c.taken-at.ensures.value c.fault_of.ensures) why.1 c.in-Err.ensures.most why.2

pub returns-in_err-answer-clause-so : goal.returns-in_err-answer-clause-so
returns-in_err-answer-clause-so g c =
    let left = g.S.Source.left in
    let faults = g.S.Source.faults in
    let text = g.K.Sink.text in
    let failed = g.K.Sink.faults in
    let l = c.loop-ask in
    let n = c.next_ask.new in
    let x = input (left l.source) (faults l.source) l.window in
    let y = input (left n.source) (faults n.source) n.window in
    let ask = c.in-Ok-Some.ask in
    let found = subst (λ (o : Option Ask). IsNextAsk x y (Ok o)) c.in-Ok-Some.field-0-is c.in-Ok-Some.ensures.so in
    let fault = c.in_err-answer.field-0.0 in
    broken_off c.args.ahead.now (left c.args.source.now) (left l.source) (faults c.args.source.now) (faults l.source) l.window (means c.args.node.now) (means l.node)
    (sink (text c.args.out.now) (failed c.args.out.now)) (sink (text l.out) (failed l.out)) l.count l.invariant.sofar
    (left n.source) (faults n.source) n.window (means c.answer.new.node) (sink (text c.answer.new.out) (failed c.answer.new.out)) ask fault c.from_residual.result (is_stop c.from_residual.result _ fault c.from_residual.ensures (λ e p. p)) found.0 found.1 c.in_err-answer.ensures

pub overflow_add-count : goal.overflow_add-count
overflow_add-count g c =
    let left = g.S.Source.left in
    let faults = g.S.Source.faults in
    let text = g.K.Sink.text in
    let failed = g.K.Sink.faults in
    let l = c.loop-ask in
    omega (
      arith,
      few c.args.ahead.now (left c.args.source.now) (left l.source) (faults c.args.source.now) (faults l.source) l.window (means c.args.node.now) (means l.node)
          (sink (text c.args.out.now) (failed c.args.out.now)) (sink (text l.out) (failed l.out)) l.count l.invariant.sofar l.invariant.most,
    )

pub loop-ask-smaller : goal.loop-ask-smaller
loop-ask-smaller g c =
    let left = g.S.Source.left in
    let faults = g.S.Source.faults in
    let l = c.loop-ask in
    let n = c.next_ask.new in
    let x = input (left l.source) (faults l.source) l.window in
    let y = input (left n.source) (faults n.source) n.window in
    let found = subst (λ (o : Option Ask). IsNextAsk x y (Ok o)) c.in-Ok-Some.field-0-is c.in-Ok-Some.ensures.so in
    omega (arith, c.in-Ok-Some.ensures.most, l.invariant.most, found.1.count, ask_has_bytes c.in-Ok-Some.ask)

pub loop-ask-preserved : goal.loop-ask-preserved
loop-ask-preserved g c =
    let left = g.S.Source.left in
    let faults = g.S.Source.faults in
    let text = g.K.Sink.text in
    let failed = g.K.Sink.faults in
    let l = c.loop-ask in
    let n = c.next_ask.new in
    let x = input (left l.source) (faults l.source) l.window in
    let y = input (left n.source) (faults n.source) n.window in
    let found = subst (λ (o : Option Ask). IsNextAsk x y (Ok o)) c.in-Ok-Some.field-0-is c.in-Ok-Some.ensures.so in
    record {
      sofar = one_more c.args.ahead.now (left c.args.source.now) (left l.source) (faults c.args.source.now) (faults l.source) l.window (means c.args.node.now) (means l.node)
          (sink (text c.args.out.now) (failed c.args.out.now)) (sink (text l.out) (failed l.out)) l.count l.invariant.sofar y (means c.answer.new.node) (sink (text c.answer.new.out) (failed c.answer.new.out)) c.in-Ok-Some.ask found.0 found.1 c.in_ok-answer.ensures;
      most = c.in-Ok-Some.ensures.most;
    }
