use Rattle.std.proofs.Common.{◌≡◌, ◌+◌, ◌≤◌, Err, List, Result, ap, arith, length, rules, subst, sym}
use Rattle.std.specs.Prelude.{None}
use Rattle.std.proofs.lemmas.Result.{err_from_is_err_and}
use Rattle.pr_script.specs.Steps.{Numbered}
use Rattle.pr_story.specs.Scripts.{JobAfterJob}
use Rattle.pr_top.specs.Runs.{all_sound}
use Rattle.pr_top.specs.Silent.{HasRunSo}
use Rattle.pr_top.specs.declared.stepping.Halt.{Halt}
use Rattle.pr_top.proofs.Runs.{halted_now, went_now}
use Rattle.pr_top.proofs.SilentRuns.{all_run, behind, silently}
use Rattle.pr_top.proofs.silent.run_all.Goals as goal

pub returns-in_err-at : goal.returns-in_err-at
returns-in_err-at c =
    let s = c.args.script.now in
    let k = c.loop-at.invariant.come in
    let w = silently s c.loop-at.at k.0 c.loop-at.run.engine c.loop-at.run.unmet k.1 in
    let p = err_from_is_err_and c.from_residual.result c.from_residual.ensures.1 in
    let was = c.in_err-at.was in
    let same = p.2 in
    let done : c.step.result ≡ Err p.0 = cc in
    let halted = halted_now JobAfterJob all_sound s c.as_slice-list.result.now c.index-list-at.result c.loop-at.at (length k.0) c.loop-at.run.engine c.loop-at.run.unmet None None w c.as_slice-list.ensures c.loop-at-test.true c.index-list-at.is c.step.new.self.engine c.step.new.self.unmet c.step.result (λ h come. c.step.ensures.steps s h come) p.0 done in
    subst (λ (r : Result (Unit {0}) Halt). HasRunSo s c.step.new.self.engine c.step.new.self.unmet r) (sym p.1) (_, halted.1)

pub overflow_add-at-in-loop-at : goal.overflow_add-at-in-loop-at
overflow_add-at-in-loop-at c =
    let s = c.args.script.now in
    let k = c.loop-at.invariant.come in
    let w = silently s c.loop-at.at k.0 c.loop-at.run.engine c.loop-at.run.unmet k.1 in
    let went = went_now JobAfterJob all_sound s c.as_slice-list.result.now c.index-list-at.result c.loop-at.at (length k.0) c.loop-at.run.engine c.loop-at.run.unmet None None w c.as_slice-list.ensures c.loop-at-test.true c.index-list-at.is c.step.new.self.engine c.step.new.self.unmet c.step.result (λ h come. c.step.ensures.steps s h come) c.in_ok-at.field-0 c.in_ok-at.was in
    let within : c.loop-at.at + (c.in_ok-at.field-0 + 1) ≤ length c.as_slice-list.result.now = went.0 in
    search rules

pub overflow_add-at-in-loop-at-2 : goal.overflow_add-at-in-loop-at-2
overflow_add-at-in-loop-at-2 c =
    let s = c.args.script.now in
    let k = c.loop-at.invariant.come in
    let w = silently s c.loop-at.at k.0 c.loop-at.run.engine c.loop-at.run.unmet k.1 in
    let went = went_now JobAfterJob all_sound s c.as_slice-list.result.now c.index-list-at.result c.loop-at.at (length k.0) c.loop-at.run.engine c.loop-at.run.unmet None None w c.as_slice-list.ensures c.loop-at-test.true c.index-list-at.is c.step.new.self.engine c.step.new.self.unmet c.step.result (λ h come. c.step.ensures.steps s h come) c.in_ok-at.field-0 c.in_ok-at.was in
    let within : c.loop-at.at + (c.in_ok-at.field-0 + 1) ≤ length c.as_slice-list.result.now = went.0 in
    search rules

pub loop-at-preserved : goal.loop-at-preserved
loop-at-preserved c =
    let s = c.args.script.now in
    let k = c.loop-at.invariant.come in
    let w = silently s c.loop-at.at k.0 c.loop-at.run.engine c.loop-at.run.unmet k.1 in
    let went = went_now JobAfterJob all_sound s c.as_slice-list.result.now c.index-list-at.result c.loop-at.at (length k.0) c.loop-at.run.engine c.loop-at.run.unmet None None w c.as_slice-list.ensures c.loop-at-test.true c.index-list-at.is c.step.new.self.engine c.step.new.self.unmet c.step.result (λ h come. c.step.ensures.steps s h come) c.in_ok-at.field-0 c.in_ok-at.was in
    record { within = went.0; come = behind s c.loop-at.at c.in_ok-at.field-0 _ c.step.new.self.engine c.step.new.self.unmet went.1.1 }

pub returns : goal.returns
returns c =
    let l = ap (λ (xs : List Numbered). length xs) c.as_slice-list.ensures in
    let k = c.loop-at.invariant.come in
    (k.0, all_run c.args.script.now c.loop-at.at k.0 c.loop-at.run.engine c.loop-at.run.unmet k.1 (omega (arith, l, c.loop-at-test.false)))
