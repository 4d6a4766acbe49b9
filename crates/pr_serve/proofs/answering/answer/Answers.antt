use Rattle.std.proofs.Common.{sym, ◌∙◌, subst}
use Rattle.pr_inval.specs.Standing as Standing
use Rattle.pr_node.specs.Scanning.{IsScanOf, Scanned}
use Rattle.pr_node.specs.Stored.{means}
use Rattle.pr_node.proofs.Scanning.{scan_fresh}
use Rattle.pr_serve.specs.Sinks.{sink}
use Rattle.pr_serve.proofs.FrameParts.{is_stop}
use Rattle.pr_serve.proofs.Going.{answer_broken, answered, begins}
use Rattle.pr_serve.proofs.answering.answer.Goals as goal

pub run-requires-clause-scan : goal.run-requires-clause-scan
run-requires-clause-scan g c =
    subst (λ (x : Scanned). IsScanOf x (Standing.means c.begin.new.self).standing (means c.args.node.now).journal) (sym c.new-scan.ensures)
    (scan_fresh (Standing.means c.begin.new.self).standing (means c.args.node.now).journal)

pub returns-in_err-run : goal.returns-in_err-run
returns-in_err-run g c =
    let text = g.K.Sink.text in
    let faults = g.K.Sink.faults in
    let x = means c.args.node.now in
    let q = c.args.ask in
    let s = Standing.means c.begin.new.self in
    let a = sink (text c.args.out.now) (faults c.args.out.now) in
    let b = sink (text c.run.new.out) (faults c.run.new.out) in
    let fault = c.in_err-run.field-0.0 in
    answer_broken x (means c.run.new.node) q s a b b (c.begin.ensures.stream ∙ c.new-session.ensures.is_stream) (begins x q (Standing.means c.new-session.result) s c.new-session.ensures c.begin.ensures)
    fault c.from_residual.result (is_stop c.from_residual.result _ fault c.from_residual.ensures (λ e p. p)) c.in_err-run.ensures

pub returns : goal.returns
returns g c =
    let text = g.K.Sink.text in
    let faults = g.K.Sink.faults in
    let x = means c.args.node.now in
    let q = c.args.ask in
    let s = Standing.means c.begin.new.self in
    let a = sink (text c.args.out.now) (faults c.args.out.now) in
    let b = sink (text c.run.new.out) (faults c.run.new.out) in
    let d = sink (text c.write_all.new.out) (faults c.write_all.new.out) in
    answered x (means c.run.new.node) q s a b d (c.begin.ensures.stream ∙ c.new-session.ensures.is_stream) (begins x q (Standing.means c.new-session.result) s c.new-session.ensures c.begin.ensures)
    c.write_all.result c.in_ok-run.ensures c.write_all.ensures
