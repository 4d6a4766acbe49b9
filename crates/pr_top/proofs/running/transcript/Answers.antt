use Rattle.std.proofs.Common.{◌≡◌, Err, Option, Result, length, subst, sym, ◌+◌}
use Rattle.std.proofs.lemmas.Result.{err_from_is_err_and}
use Rattle.pr_ports.specs.Faults.{HasRisen}
use Rattle.pr_sim.specs.Making.{declared_of}
use Rattle.pr_sim.proofs.Story.{running_tells}
use Rattle.pr_text.specs.Endings.{ok_line}
use Rattle.pr_top.specs.Progress.{HasTold}
use Rattle.pr_top.specs.Unended.{HasRunUnendedTo}
use Rattle.pr_top.specs.declared.running.Expected.{Expected}
use Rattle.pr_top.specs.declared.stepping.Halt.{Halt}
use Rattle.pr_top.specs.declared.stepping.Run.{Run}
use Rattle.pr_top.proofs.Runs.{end_told, unended_stops}
use Rattle.pr_top.proofs.Written.{risen_then, writes_map}
use Rattle.pr_top.proofs.running.transcript.Goals as goal

pub returns-in_err-run-clause-told : goal.returns-in_err-run-clause-told
returns-in_err-run-clause-told g c = λ o sound h before risen le k.
    let s = c.args.script.now in
    let b = g.K.Sink.text c.args.out.now in
    let failed : Type 0 = HasRisen risen (g.K.Sink.faults c.args.out.now) in
    let p = err_from_is_err_and c.from_residual.result c.from_residual.ensures.1 in
    let was = c.in_err-run.was in
    let same = p.2 in
    let done : c.args.ended ≡ Err p.0 = cc in
    subst (λ (r : Result (Option Expected) Halt). HasTold o sound s h failed before b r) (sym p.1)
    (unended_stops o sound failed s h before b p.0 (subst (λ (r : Result Run Halt). HasRunUnendedTo o sound s h failed before b r) done k))

pub returns-clause-told : goal.returns-clause-told
returns-clause-told g c = λ o sound h before risen le k.
    let s = c.args.script.now in
    let ds = s.decls.list in
    let d = g.K.Sink.text c.args.out.now in
    let z = g.K.Sink.text c.end-told.new.out in
    let failed : Type 0 = HasRisen risen (g.K.Sink.faults c.args.out.now) in
    let later : Type 0 = HasRisen (g.K.Sink.faults c.args.out.now) (g.K.Sink.faults c.end-told.new.out) in
    let now : Type 0 = HasRisen risen (g.K.Sink.faults c.end-told.new.out) in
    let was = c.in_ok-run.was in
    let all = subst (λ (r : Result Run Halt). HasRunUnendedTo o sound s h failed before d r) was k in
    let e = c.in_ok-run.run'.engine in
    let u = c.in_ok-run.run'.unmet in
    let come = all.0 in
    let tells = running_tells (declared_of ds) come.attached h e come.running in
    end_told o sound s h e u come all.1 before d all.2 now z c.end-told.result
    (writes_map (Option Expected) later now d z (ok_line (length ds + length h)) c.end-told.result (risen_then risen (g.K.Sink.faults c.args.out.now) (g.K.Sink.faults c.end-told.new.out) le) (c.end-told.ensures.told h tells))
    c.end-told.ensures.unmet c.end-told.ensures.kept
