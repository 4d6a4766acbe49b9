use Rattle.std.proofs.Common.{sym, ◌∙◌}
use Rattle.pr_crew.proofs.Ran.{flow_ran, opened_somewhere, passes_ran}
use Rattle.pr_crew.proofs.running.run_flow.Goals as goal

pub new-destination-requires-clause-opened : goal.new-destination-requires-clause-opened
new-destination-requires-clause-opened g c =
    let r = c.requires.ready in
    opened_somewhere r.0 r.1 c.args.cells.now c.args.task.now.work.destination c.args.task.now.destination c.index-cells-work-2.result r.2.destination c.index-cells-work-2.is

pub returns-clause-done : goal.returns-clause-done
returns-clause-done g c plan h inside k r =
    let t = c.args.task.now in
    let w = c.in-Some-Some-Some in
    flow_ran plan h c.args.cells.now g.W.Wire.state t c.index-cells-work.result c.index-cells-work-2.result w.from w.to w.session r (sym c.take.ensures.value ∙ w.is-0) (sym c.take-2.ensures.value ∙ w.is-1) (sym c.take-3.ensures.value ∙ w.is-2)
    c.index-cells-work.is c.index-cells-work-2.is c.new-source.result c.new-destination.result c.new-source.ensures c.new-destination.ensures inside k c.drive-end.new.source c.drive-end.new.destination c.drive-end.new.session c.take_pass.result c.take_pass-2.result c.drive-end.new.wire c.drive-end.result
    (c.drive-end.ensures.done plan h t.work.stream k) c.take_pass.ensures.taken c.take_pass-2.ensures.taken c.take_pass.ensures.pass c.take_pass-2.ensures.pass

pub returns-clause-passes : goal.returns-clause-passes
returns-clause-passes g c =
    let t = c.args.task.now in
    let w = c.in-Some-Some-Some in
    let r = c.requires.ready in
    passes_ran r.0 r.1 c.args.cells.now g.W.Wire.state t c.index-cells-work.result c.index-cells-work-2.result w.from w.to w.session r.2 (sym c.take.ensures.value ∙ w.is-0) (sym c.take-2.ensures.value ∙ w.is-1)
    (sym c.take-3.ensures.value ∙ w.is-2) c.index-cells-work.is c.index-cells-work-2.is c.new-source.result c.new-destination.result c.new-source.ensures c.new-destination.ensures 0 c.drive-end.new.source c.drive-end.new.destination c.drive-end.new.session c.take_pass.result c.take_pass-2.result c.drive-end.result
    (λ begins. (c.drive-end.ensures.done r.0 r.1 t.work.stream 0 begins).0) c.take_pass.ensures.taken c.take_pass-2.ensures.taken
