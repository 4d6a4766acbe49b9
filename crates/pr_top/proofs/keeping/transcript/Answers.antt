use Rattle.std.proofs.Common.{◌≡◌, ◌≤◌, ◌+◌, ◌∙◌, Err, List, Option, Result, ap, arith, length, subst, sym, ℕ}
use Rattle.std.proofs.lemmas.Result.{err_from_is_err_and}
use Rattle.pr_ports.specs.Faults.{HasRisen}
use Rattle.pr_sim.specs.Making.{declared_of}
use Rattle.pr_sim.proofs.Story.{running_tells}
use Rattle.pr_text.specs.Endings.{ok_line}
use Rattle.pr_story.specs.Scripts.{JobAfterJob}
use Rattle.pr_top.specs.KeptProgress.{HasKeptAll, HasKeptTold}
use Rattle.pr_top.specs.Progress.{Writes}
use Rattle.pr_top.specs.declared.keeping.Break.{Break}
use Rattle.pr_top.specs.declared.keeping.Break.TheVariants as breaks
use Rattle.pr_top.specs.Unended.{HasBegunWell}
use Rattle.pr_top.specs.declared.running.Expected.{Expected}
use Rattle.pr_top.specs.declared.stepping.Halt.{Halt}
use Rattle.pr_top.specs.declared.stepping.Run.{Run}
use Rattle.pr_top.specs.Runs.{all_sound}
use Rattle.pr_top.proofs.Downs.{downs_of}
use Rattle.pr_top.proofs.KeptRuns.{kept_none}
use Rattle.pr_top.proofs.KeptTold.{commands_broke, end_broke, end_told, heads_broke}
use Rattle.pr_top.proofs.Written.{risen_then, writes_map}
use Rattle.pr_top.proofs.keeping.transcript.Goals as goal

pub returns-in_err-run-clause-told : goal.returns-in_err-run-clause-told
returns-in_err-run-clause-told g c =
    let s = c.args.script.now in
    let a = g.K.Sink.text c.args.out.now in
    let b = g.K.Sink.text c.begin.new.out in
    let failed : Type 0 = HasRisen (g.K.Sink.faults c.args.out.now) (g.K.Sink.faults c.begin.new.out) in
    let none = kept_none g.D.Disk.state g.D.Disk.images g.D.Disk.moment g.D.Disk.images_since c.args.keep.now (λ image was. g.met.D.Disk.only_now c.args.keep.now.disk image was) c.requires.kept in
    let p = err_from_is_err_and c.from_residual.result c.from_residual.ensures.1 in
    let is = p.1 in
    let same = p.2 in
    let done : c.from_residual.result ≡ Err (breaks.Halted c.in_err-run.field-0.0) = cc in
    subst (λ (r : Result (Option Expected) Break). HasKeptTold g.D.Disk.state g.D.Disk.images g.D.Disk.moment g.D.Disk.images_since c.args.keep.now c.args.keep.now s failed a b r) (sym done)
    (heads_broke g.D.Disk.state g.D.Disk.images g.D.Disk.moment g.D.Disk.images_since failed s a b c.in_err-run.field-0.0 c.args.keep.now none
    (subst (λ (r : Result Run Halt). HasBegunWell s failed a b r) c.in_err-run.was c.begin.ensures.begun))

pub commands-requires-clause-come : goal.commands-requires-clause-come
commands-requires-clause-come g c = c.in_ok-run.ensures.begun.0 JobAfterJob

pub returns-in_err-commands-clause-told : goal.returns-in_err-commands-clause-told
returns-in_err-commands-clause-told g c =
    let s = c.args.script.now in
    let a = g.K.Sink.text c.args.out.now in
    let b = g.K.Sink.text c.begin.new.out in
    let heads = c.in_ok-run.ensures.begun.1 in
    let d = g.K.Sink.text c.commands.new.out in
    let later : Type 0 = HasRisen (g.K.Sink.faults c.begin.new.out) (g.K.Sink.faults c.commands.new.out) in
    let now : Type 0 = HasRisen (g.K.Sink.faults c.args.out.now) (g.K.Sink.faults c.commands.new.out) in
    let e = c.commands.new.run.engine in
    let u = c.commands.new.run.unmet in
    let was = c.in_err-commands.was in
    let p = err_from_is_err_and c.from_residual-in_err-commands.result c.from_residual-in_err-commands.ensures.1 in
    let is = p.1 in
    let same = p.2 in
    let done : c.commands.result ≡ Err p.0 = cc in
    subst (λ (r : Result (Option Expected) Break). HasKeptTold g.D.Disk.state g.D.Disk.images g.D.Disk.moment g.D.Disk.images_since c.args.keep.now c.commands.new.keep s now a d r) (sym p.1)
    (commands_broke g.D.Disk.state g.D.Disk.images g.D.Disk.moment g.D.Disk.images_since later now s e u a b d c.args.keep.now c.commands.new.keep p.0
    (risen_then (g.K.Sink.faults c.args.out.now) (g.K.Sink.faults c.begin.new.out) (g.K.Sink.faults c.commands.new.out) c.begin.ensures.rises) heads
    (subst (λ (r : Result (Unit {0}) Break). HasKeptAll g.D.Disk.state g.D.Disk.images g.D.Disk.moment g.D.Disk.images_since c.args.keep.now c.commands.new.keep s later b d e u r) done c.commands.ensures.run))

pub returns-in_err-told-clause-told : goal.returns-in_err-told-clause-told
returns-in_err-told-clause-told g c =
    let s = c.args.script.now in
    let a = g.K.Sink.text c.args.out.now in
    let b = g.K.Sink.text c.begin.new.out in
    let heads = c.in_ok-run.ensures.begun.1 in
    let d = g.K.Sink.text c.commands.new.out in
    let z = g.K.Sink.text c.end-told.new.out in
    let later : Type 0 = HasRisen (g.K.Sink.faults c.commands.new.out) (g.K.Sink.faults c.end-told.new.out) in
    let now : Type 0 = HasRisen (g.K.Sink.faults c.args.out.now) (g.K.Sink.faults c.end-told.new.out) in
    let e = c.commands.new.run.engine in
    let u = c.commands.new.run.unmet in
    let all = c.in_ok-commands.ensures.run in
    let tells = running_tells (declared_of s.decls.list) all.1.attached all.0 e all.1.running in
    let rises : g.K.Sink.faults c.args.out.now ≤ g.K.Sink.faults c.commands.new.out = omega (arith, c.begin.ensures.rises, c.commands.ensures.rises) in
    let line : List ℕ = ok_line (length s.decls.list + length all.0) in
    let written = writes_map (Option Expected) later now d z line c.end-told.result (risen_then (g.K.Sink.faults c.args.out.now) (g.K.Sink.faults c.commands.new.out) (g.K.Sink.faults c.end-told.new.out) rises) (c.end-told.ensures.told all.0 tells) in
    let p = err_from_is_err_and c.from_residual-in_err-told.result c.from_residual-in_err-told.ensures.1 in
    let is = p.1 in
    let same = p.2 in
    let done : c.from_residual-in_err-told.result ≡ Err (breaks.Halted c.in_err-told.field-0.0) = cc in
    subst (λ (r : Result (Option Expected) Break). HasKeptTold g.D.Disk.state g.D.Disk.images g.D.Disk.moment g.D.Disk.images_since c.args.keep.now c.commands.new.keep s now a z r) (sym done)
    (end_broke g.D.Disk.state g.D.Disk.images g.D.Disk.moment g.D.Disk.images_since s all.0 e u all.1 (downs_of all_sound s all.0 e tells c.commands.ensures.downs) a b d z heads all.2 c.args.keep.now c.commands.new.keep all.3 now (Option Expected) c.in_err-told.field-0.0
    (subst (λ (r : Result (Option Expected) Halt). Writes line now d z r) c.in_err-told.was written)
    (λ short. c.end-told.ensures.kept (c.in_err-told.was ∙ ap (λ (x : Halt). let r : Result (Option Expected) Halt = Err x in r) short)))

pub returns-clause-told : goal.returns-clause-told
returns-clause-told g c =
    let s = c.args.script.now in
    let a = g.K.Sink.text c.args.out.now in
    let b = g.K.Sink.text c.begin.new.out in
    let heads = c.in_ok-run.ensures.begun.1 in
    let d = g.K.Sink.text c.commands.new.out in
    let z = g.K.Sink.text c.end-told.new.out in
    let later : Type 0 = HasRisen (g.K.Sink.faults c.commands.new.out) (g.K.Sink.faults c.end-told.new.out) in
    let now : Type 0 = HasRisen (g.K.Sink.faults c.args.out.now) (g.K.Sink.faults c.end-told.new.out) in
    let e = c.commands.new.run.engine in
    let u = c.commands.new.run.unmet in
    let all = c.in_ok-commands.ensures.run in
    let tells = running_tells (declared_of s.decls.list) all.1.attached all.0 e all.1.running in
    let rises : g.K.Sink.faults c.args.out.now ≤ g.K.Sink.faults c.commands.new.out = omega (arith, c.begin.ensures.rises, c.commands.ensures.rises) in
    let line : List ℕ = ok_line (length s.decls.list + length all.0) in
    let written = writes_map (Option Expected) later now d z line c.end-told.result (risen_then (g.K.Sink.faults c.args.out.now) (g.K.Sink.faults c.commands.new.out) (g.K.Sink.faults c.end-told.new.out) rises) (c.end-told.ensures.told all.0 tells) in
    end_told g.D.Disk.state g.D.Disk.images g.D.Disk.moment g.D.Disk.images_since s all.0 e u all.1 (downs_of all_sound s all.0 e tells c.commands.ensures.downs) a b d z heads all.2 c.args.keep.now c.commands.new.keep all.3 now c.in_ok-told.field-0
    (subst (λ (r : Result (Option Expected) Halt). Writes line now d z r) c.in_ok-told.was written) c.in_ok-told.ensures.unmet
