use Rattle.std.proofs.lemmas.Result.{err_from_is_err_and}
use Rattle.pr_crew.proofs.FlowEnding.{unconnected_down, unconnected_refused}
use Rattle.pr_crew.proofs.running.unconnected.Goals as goal

pub returns-in_err-down-clause-done : goal.returns-in_err-down-clause-done
returns-in_err-down-clause-done g c plan h s turns k source begins =
    let p = err_from_is_err_and c.from_residual.result c.from_residual.ensures.1 in
    let u = unconnected_refused plan h s k turns source c.args.destination.now c.down.new.self c.args.session.now c.down.new.session c.in_err-down.field-0.0 c.requires.attached begins c.in_err-down.ensures.made c.in_err-down.ensures.act in
    rw (p.1, p.2) (u.0, λ whole. absurd whole)

pub returns-clause-done : goal.returns-clause-done
returns-clause-done g c plan h s turns k source begins =
    let u = unconnected_down plan h s k turns source c.args.destination.now c.down.new.self c.args.session.now c.down.new.session c.requires.attached begins c.in_ok-down.ensures.made c.in_ok-down.ensures.act in
    (u.0, λ whole. u.1)
