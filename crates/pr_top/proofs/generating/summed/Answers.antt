use Rattle.std.proofs.Common.{◌≡◌, ◌++◌, ◌∙◌, Err, List, Result, ap, subst, sym, ℕ}
use Rattle.std.proofs.lemmas.Result.{err_from_is_err_and}
use Rattle.pr_script.specs.declared.script.Script.{Script}
use Rattle.pr_story.specs.Scripts.{JobAfterJob}
use Rattle.pr_top.specs.Generated.{HasSummed}
use Rattle.pr_top.specs.Progress.{HasCome}
use Rattle.pr_top.specs.declared.stepping.Halt.{Halt}
use Rattle.pr_top.specs.declared.stepping.Halt.TheVariants as halts
use Rattle.pr_gen.specs.Summary.{summary_text}
use Rattle.pr_gen.specs.Workload.{workload}
use Rattle.pr_top.proofs.Generated.{all_summed, has_history, nodes_are}
use Rattle.pr_top.proofs.SilentRuns.{ended_stops, nothing_ran}
use Rattle.pr_top.proofs.generating.summed.Goals as goal

pub returns-in_err-script : goal.returns-in_err-script
returns-in_err-script c =
    let p = err_from_is_err_and c.from_residual.result c.from_residual.ensures.1 in
    let is = p.1 in
    let same = p.2 in
    let done : c.from_residual.result ≡ Err halts.NoMemory = cc in
    subst (λ (r : Result (List ℕ) Halt). HasSummed (workload c.args.seed c.args.size) r) (sym done) (nothing_ran (workload c.args.seed c.args.size))

pub returns-in_err-run : goal.returns-in_err-run
returns-in_err-run c =
    let p = err_from_is_err_and c.from_residual-in_err-run.result c.from_residual-in_err-run.ensures.1 in
    let same = p.2 in
    let is = p.1 in
    let done : c.from_residual-in_err-run.result ≡ Err c.in_err-run.field-0.0 = cc in
    subst (λ (r : Result (List ℕ) Halt). HasSummed (workload c.args.seed c.args.size) r) (sym done)
    (subst (λ (s : Script). HasSummed s (Err c.in_err-run.field-0.0)) c.in_ok-script.ensures.script c.in_err-run.ensures)

pub summary-told-requires : goal.summary-told-requires
summary-told-requires c =
    let k = c.in_ok-run.ensures in
    let n = nodes_are c.in_ok-script.script.decls.list k.1.attached k.0 c.in_ok-run.run'.engine k.1.running in
    (k.0, has_history _ k.1.attached k.0 c.in_ok-run.run'.engine k.1.running, n.0, n.1)

pub returns-in_err-told : goal.returns-in_err-told
returns-in_err-told c =
    let p = err_from_is_err_and c.from_residual-in_err-told.result c.from_residual-in_err-told.ensures.1 in
    let is = p.1 in
    let same = p.2 in
    let done : c.from_residual-in_err-told.result ≡ Err halts.NoMemory = cc in
    subst (λ (r : Result (List ℕ) Halt). HasSummed (workload c.args.seed c.args.size) r) (sym done)
    (subst (λ (s : Script). HasSummed s (Err halts.NoMemory)) c.in_ok-script.ensures.script
    (ended_stops c.in_ok-script.script c.in_ok-run.run'.engine c.in_ok-run.run'.unmet c.in_ok-run.ensures))

pub returns : goal.returns
returns c =
    let k = c.in_ok-run.ensures in
    let h = k.0 in
    let s_is = c.in_ok-script.ensures.script in
    let held = has_history _ k.1.attached h c.in_ok-run.run'.engine k.1.running in
    let ds = c.in_ok-script.script.decls.list in
    let told = c.in_ok-told.ensures h held ∙ ap (λ (t : List ℕ). t ++ summary_text ds h) c.new-text.ensures ∙ ap (λ (s : Script). summary_text s.decls.list h) s_is in
    all_summed c.args.seed c.args.size c.in_ok-run.run'.engine c.in_ok-run.run'.unmet c.summary-told.new.out h
    (subst (λ (s : Script). HasCome JobAfterJob s _ h c.in_ok-run.run'.engine c.in_ok-run.run'.unmet) s_is k.1)
    told
