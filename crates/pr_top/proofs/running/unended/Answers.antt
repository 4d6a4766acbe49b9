use Rattle.std.proofs.Common.{◌≡◌, Err, Result, subst, sym}
use Rattle.std.proofs.lemmas.Result.{err_from_is_err_and}
use Rattle.pr_ports.specs.Faults.{HasRisen}
use Rattle.pr_sim.specs.Making.{declared_of}
use Rattle.pr_sim.proofs.Story.{running_tells}
use Rattle.pr_story.specs.Scripts.{JobAfterJob}
use Rattle.pr_top.specs.Progress.{HasRunAll}
use Rattle.pr_top.specs.Runs.{all_sound}
use Rattle.pr_top.specs.Unended.{HasBegunWell, HasRunUnended}
use Rattle.pr_top.specs.declared.stepping.Run.{Run}
use Rattle.pr_top.specs.declared.stepping.Halt.{Halt}
use Rattle.pr_top.proofs.Downs.{downs_of}
use Rattle.pr_top.proofs.Runs.{none_ran, run_cut, run_whole}
use Rattle.pr_top.proofs.Written.{risen_then}
use Rattle.pr_top.proofs.running.unended.Goals as goal

pub returns-in_err-run-clause-told : goal.returns-in_err-run-clause-told
returns-in_err-run-clause-told g c =
    let s = c.args.script.now in
    let a = g.K.Sink.text c.args.out.now in
    let b = g.K.Sink.text c.begin.new.out in
    let failed : Type 0 = HasRisen (g.K.Sink.faults c.args.out.now) (g.K.Sink.faults c.begin.new.out) in
    let p = err_from_is_err_and c.from_residual.result c.from_residual.ensures.1 in
    let was = c.in_err-run.was in
    let same = p.2 in
    let done : c.begin.result ≡ Err p.0 = cc in
    subst (λ (r : Result Run Halt). HasRunUnended JobAfterJob all_sound s failed a b r) (sym p.1)
    (none_ran JobAfterJob all_sound failed s a b p.0 (subst (λ (r : Result Run Halt). HasBegunWell s failed a b r) done c.begin.ensures.begun))

pub commands-requires : goal.commands-requires
commands-requires g c = c.in_ok-run.ensures.begun.0 JobAfterJob

pub returns-in_err-commands-clause-told : goal.returns-in_err-commands-clause-told
returns-in_err-commands-clause-told g c =
    let s = c.args.script.now in
    let a = g.K.Sink.text c.args.out.now in
    let b = g.K.Sink.text c.begin.new.out in
    let d = g.K.Sink.text c.commands.new.out in
    let later : Type 0 = HasRisen (g.K.Sink.faults c.begin.new.out) (g.K.Sink.faults c.commands.new.out) in
    let now : Type 0 = HasRisen (g.K.Sink.faults c.args.out.now) (g.K.Sink.faults c.commands.new.out) in
    let e = c.commands.new.run.engine in
    let u = c.commands.new.run.unmet in
    let p = err_from_is_err_and c.from_residual-in_err-commands.result c.from_residual-in_err-commands.ensures.1 in
    let was = c.in_err-commands.was in
    let same = p.2 in
    let done : c.commands.result ≡ Err p.0 = cc in
    subst (λ (r : Result Run Halt). HasRunUnended JobAfterJob all_sound s now a d r) (sym p.1)
    (run_cut JobAfterJob all_sound later now s e u a b d p.0 (risen_then (g.K.Sink.faults c.args.out.now) (g.K.Sink.faults c.begin.new.out) (g.K.Sink.faults c.commands.new.out) c.begin.ensures.rises) c.in_ok-run.ensures.begun.1 c.commands.ensures.downs
    (subst (λ (r : Result (Unit {0}) Halt). HasRunAll JobAfterJob all_sound s later b d e u r) done c.commands.ensures.run))

pub returns-clause-told : goal.returns-clause-told
returns-clause-told g c =
    let s = c.args.script.now in
    let a = g.K.Sink.text c.args.out.now in
    let b = g.K.Sink.text c.begin.new.out in
    let d = g.K.Sink.text c.commands.new.out in
    let now : Type 0 = HasRisen (g.K.Sink.faults c.args.out.now) (g.K.Sink.faults c.commands.new.out) in
    let all = c.in_ok-commands.ensures.run in
    let come = all.1 in
    let tells = running_tells (declared_of s.decls.list) come.attached all.0 c.commands.new.run.engine come.running in
    (all.0, run_whole JobAfterJob all_sound now s all.0 c.commands.new.run a b d come (downs_of all_sound s all.0 c.commands.new.run.engine tells c.commands.ensures.downs) c.in_ok-run.ensures.begun.1 all.2)
