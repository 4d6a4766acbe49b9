use Rattle.std.proofs.Common.{subst, sym}
use Rattle.pr_ports.specs.Faults.{HasRisen}
use Rattle.pr_top.specs.Kept.{HasRunKept}
use Rattle.pr_top.proofs.KeptEnds.{file_made, run_on, unmade_on}
use Rattle.pr_top.proofs.keeping.kept.Goals as goal

pub returns-in-Ok-clause-run : goal.returns-in-Ok-clause-run
returns-in-Ok-clause-run g c =
    let failed : Type 0 = HasRisen (g.K.Sink.faults c.args.out.now) (g.K.Sink.faults c.run_kept-end.new.out) in
    let file = file_made g.D.Disk.state g.D.Disk.images g.D.Disk.moment g.D.Disk.images_since c.args.disk c.in-Ok.keep c.in-Ok.ensures.ok.0 c.in-Ok.ensures.ok.1 c.in-Ok.ensures.counts in
    subst (λ (d : g.row.D.Denot). HasRunKept g.D.Disk.state g.D.Disk.images g.D.Disk.moment g.D.Disk.images_since c.args.disk d c.run_kept-end.result c.args.script.now failed (g.K.Sink.text c.args.out.now) (g.K.Sink.text c.run_kept-end.new.out)) (sym c.close.ensures)
    (run_on g.D.Disk.state g.D.Disk.images g.D.Disk.moment g.D.Disk.images_since c.args.disk c.in-Ok.keep c.run_kept-end.new.keep c.args.script.now failed (g.K.Sink.text c.args.out.now) (g.K.Sink.text c.run_kept-end.new.out) c.run_kept-end.result file c.run_kept-end.ensures.run)

pub returns-in-Err-clause-run : goal.returns-in-Err-clause-run
returns-in-Err-clause-run g c =
    unmade_on g.D.Disk.state g.D.Disk.images g.D.Disk.moment g.D.Disk.images_since c.args.disk c.in-Err.field-0.disk c.args.script.now (HasRisen (g.K.Sink.faults c.args.out.now) (g.K.Sink.faults c.unmade-end.new.out)) (g.K.Sink.text c.args.out.now) (g.K.Sink.text c.unmade-end.new.out)
    c.in-Err.field-0.fault c.unmade-end.result c.in-Err.ensures.err c.in-Err.ensures.cause c.unmade-end.ensures.end
