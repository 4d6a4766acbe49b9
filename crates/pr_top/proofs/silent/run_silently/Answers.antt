use Rattle.std.proofs.Common.{◌≡◌, Err, Result, subst, sym}
use Rattle.std.proofs.lemmas.Result.{err_from_is_err_and}
use Rattle.pr_story.specs.Scripts.{JobAfterJob}
use Rattle.pr_top.specs.Silent.{HasEnded}
use Rattle.pr_top.specs.declared.stepping.Halt.{Halt}
use Rattle.pr_top.specs.declared.stepping.Halt.TheVariants as halts
use Rattle.pr_top.specs.declared.stepping.Run.{Run}
use Rattle.pr_top.proofs.Coming.{start}
use Rattle.pr_top.proofs.SilentRuns.{nothing_ran, stopped_so}
use Rattle.pr_top.proofs.silent.run_silently.Goals as goal

pub returns-in_err-engine : goal.returns-in_err-engine
returns-in_err-engine c =
    let p = err_from_is_err_and c.from_residual.result c.from_residual.ensures.1 in
    let is = p.1 in
    let same = p.2 in
    let done : c.from_residual.result ≡ Err halts.NoMemory = cc in
    subst (λ (r : Result Run Halt). HasEnded c.args.script.now r) (sym done) (nothing_ran c.args.script.now)

pub run_all-requires : goal.run_all-requires
run_all-requires c = start JobAfterJob c.args.script.now c.in_ok-engine.engine c.requires c.in_ok-engine.ensures

pub returns-in_err-run_all : goal.returns-in_err-run_all
returns-in_err-run_all c =
    let p = err_from_is_err_and c.from_residual-in_err-run_all.result c.from_residual-in_err-run_all.ensures.1 in
    let same = p.2 in
    let is = p.1 in
    let done : c.from_residual-in_err-run_all.result ≡ Err c.in_err-run_all.field-0.0 = cc in
    subst (λ (r : Result Run Halt). HasEnded c.args.script.now r) (sym done)
    (stopped_so c.args.script.now c.run_all.new.run.engine c.in_err-run_all.field-0.0 c.in_err-run_all.ensures)
