use Rattle.std.proofs.Common.{◌≡◌, Err, Result, subst, sym}
use Rattle.std.proofs.lemmas.Result.{err_from_is_err_and}
use Rattle.pr_script.specs.declared.script.Script.{Script}
use Rattle.pr_top.specs.Fronts.{IsEndedSo}
use Rattle.pr_top.specs.Reading.{IsFinished}
use Rattle.pr_top.specs.declared.fronts.Front.{Front}
use Rattle.pr_top.specs.declared.reading.ReadError.{ReadError}
use Rattle.pr_top.proofs.FrontBytes.{ended_fault}
use Rattle.pr_top.proofs.fronts.ended.Goals as goal

pub returns-in_err-script : goal.returns-in_err-script
returns-in_err-script c = λ bytes holds.
    let p = err_from_is_err_and c.from_residual.result c.from_residual.ensures.1 in
    let was = c.in_err-script.was in
    let same = p.2 in
    let done : c.finish.result ≡ Err p.0 = cc in
    subst (λ (r : Result Front ReadError). IsEndedSo bytes c.args.ahead.now r) (sym p.1)
    (ended_fault bytes c.args.ahead.now p.0 (subst (λ (r : Result Script ReadError). IsFinished bytes r) done (c.finish.ensures bytes holds)))

pub returns-in-Ok : goal.returns-in-Ok
returns-in-Ok c = λ bytes holds. let f = c.in_ok-script.ensures bytes holds in (c.in-Ok.ensures, f.0, f.1, f.2)
