use Rattle.std.proofs.Common.{◌≡◌, ◌≤◌, ◌+◌, ◌++◌, [], Err, List, Result, ap, arith, drop, length, refl, reverse, rules, subst, sym, ℕ, inl}
use Rattle.std.proofs.lemmas.List.{drop_all}
use Rattle.std.proofs.lemmas.Result.{err_from_is_err_and}
use Rattle.pr_ports.specs.Faults.{HasRisen}
use Rattle.pr_script.specs.Steps.{Numbered}
use Rattle.pr_sim.specs.Making.{declared_of}
use Rattle.pr_sim.proofs.Story.{running_tells}
use Rattle.pr_story.specs.Scripts.{JobAfterJob}
use Rattle.pr_top.specs.Runs.{all_sound}
use Rattle.pr_top.specs.KeptProgress.{HasKeptAll, HasKeptFrom}
use Rattle.pr_top.specs.Kept.{placed}
use Rattle.pr_top.specs.Progress.{HasCome, Writes, entry_lines}
use Rattle.pr_top.specs.declared.keeping.Break.{Break}
use Rattle.pr_top.specs.declared.keeping.Break.TheVariants as breaks
use Rattle.pr_top.specs.declared.stepping.Halt.{Halt}
use Rattle.pr_top.specs.declared.stepping.Halt.TheVariants as halts
use Rattle.pr_top.proofs.KeptRuns.{kept_front, kept_none, kept_rest, next_kept, not_kept, not_told, step_halted}
use Rattle.pr_top.proofs.Downs.{downs_of, first_downs}
use Rattle.pr_top.proofs.Runs.{downs_now, halted_now, made_now, over_of, told_within, went_now}
use Rattle.pr_top.proofs.Written.{appends_none, risen_then, writes_map}
use Rattle.pr_top.proofs.keeping.commands.Goals as goal

pub keep_from-requires : goal.keep_from-requires
keep_from-requires g c =
    let s = c.args.script.now in
    let ds = s.decls.list in
    let w = c.loop-at.invariant.held.0 in
    let before = c.loop-at.invariant.held.1 in
    let a = g.K.Sink.text c.args.out.now in
    let b = g.K.Sink.text c.loop-at.out in
    let f = c.step-step.new.self.engine in
    let v = c.step-step.new.self.unmet in
    let made = made_now JobAfterJob all_sound s c.as_slice-list.result.now c.index-list-at.result c.loop-at.at c.loop-at.told c.loop-at.run.engine c.loop-at.run.unmet a b w c.as_slice-list.ensures c.loop-at-test.true c.index-list-at.is f v c.step-step.result (λ h come. c.step-step.ensures.steps s h come) in (
      declared_of ds,
      made.0 ++ w.h,
      made.1.tells,
      told_within made.0 w.h c.loop-at.told w.all_told,
      kept_front g.D.Disk.state g.D.Disk.images g.D.Disk.moment g.D.Disk.images_since w.h made.0 c.loop-at.told c.loop-at.keep w.all_told before.keeps,
    )

pub returns-in_err-keep_from-clause-run : goal.returns-in_err-keep_from-clause-run
returns-in_err-keep_from-clause-run g c =
    let s = c.args.script.now in
    let ds = s.decls.list in
    let w = c.loop-at.invariant.held.0 in
    let before = c.loop-at.invariant.held.1 in
    let a = g.K.Sink.text c.args.out.now in
    let b = g.K.Sink.text c.loop-at.out in
    let f = c.step-step.new.self.engine in
    let v = c.step-step.new.self.unmet in
    let made = made_now JobAfterJob all_sound s c.as_slice-list.result.now c.index-list-at.result c.loop-at.at c.loop-at.told c.loop-at.run.engine c.loop-at.run.unmet a b w c.as_slice-list.ensures c.loop-at-test.true c.index-list-at.is f v c.step-step.result (λ h come. c.step-step.ensures.steps s h come) in
    let failed : Type 0 = HasRisen (g.K.Sink.faults c.args.out.now) (g.K.Sink.faults c.loop-at.out) in
    let p = err_from_is_err_and c.from_residual.result c.from_residual.ensures.1 in
    let was = c.in_err-keep_from.was in
    let same = p.2 in
    let done : c.keep_from.result ≡ Err p.0 = cc in
    let downs = downs_now JobAfterJob all_sound s c.as_slice-list.result.now c.index-list-at.result c.loop-at.at c.loop-at.told c.loop-at.run.engine c.loop-at.run.unmet a b w c.as_slice-list.ensures c.loop-at-test.true c.index-list-at.is f v c.step-step.result (λ h come. c.step-step.ensures.steps s h come) all_sound refl (λ h come. c.step-step.ensures.downs s h come) c.loop-at.invariant.downs in
    let front = kept_front g.D.Disk.state g.D.Disk.images g.D.Disk.moment g.D.Disk.images_since w.h made.0 c.loop-at.told c.loop-at.keep w.all_told before.keeps in
    let kept = c.keep_from.ensures (declared_of ds) (made.0 ++ w.h) made.1.tells (told_within made.0 w.h c.loop-at.told w.all_told) front in
    subst (λ (r : Result (Unit {0}) Break). HasKeptAll g.D.Disk.state g.D.Disk.images g.D.Disk.moment g.D.Disk.images_since c.args.keep.now c.keep_from.new.keep s failed a b f v r) (sym p.1)
    (not_kept g.D.Disk.state g.D.Disk.images g.D.Disk.moment g.D.Disk.images_since s w.h made.0 c.args.keep.now c.loop-at.keep c.keep_from.new.keep before failed c.loop-at.run.engine f c.loop-at.run.unmet v c.loop-at.told (drop c.loop-at.at s.commands) a b p.0 w.come
    (downs_of all_sound s w.h c.loop-at.run.engine (running_tells (declared_of ds) w.come.attached w.h c.loop-at.run.engine w.come.running) c.loop-at.invariant.downs)
    (over_of JobAfterJob all_sound s (made.0 ++ w.h) f halts.NoMemory made.1 downs) w.all_told made.2 w.written
    (subst (λ (r : Result (Unit {0}) Break). HasKeptFrom g.D.Disk.state g.D.Disk.images g.D.Disk.moment g.D.Disk.images_since c.loop-at.keep c.keep_from.new.keep (placed (reverse (made.0 ++ w.h))) c.loop-at.told v r) done kept))

pub tell_from-requires-clause-held : goal.tell_from-requires-clause-held
tell_from-requires-clause-held g c =
    let s = c.args.script.now in
    let ds = s.decls.list in
    let w = c.loop-at.invariant.held.0 in
    let before = c.loop-at.invariant.held.1 in
    let a = g.K.Sink.text c.args.out.now in
    let b = g.K.Sink.text c.loop-at.out in
    let f = c.step-step.new.self.engine in
    let v = c.step-step.new.self.unmet in
    let made = made_now JobAfterJob all_sound s c.as_slice-list.result.now c.index-list-at.result c.loop-at.at c.loop-at.told c.loop-at.run.engine c.loop-at.run.unmet a b w c.as_slice-list.ensures c.loop-at-test.true c.index-list-at.is f v c.step-step.result (λ h come. c.step-step.ensures.steps s h come) in
    (made.0 ++ w.h, made.1.tells, told_within made.0 w.h c.loop-at.told w.all_told)

pub returns-in_err-told-clause-run : goal.returns-in_err-told-clause-run
returns-in_err-told-clause-run g c =
    let s = c.args.script.now in
    let ds = s.decls.list in
    let w = c.loop-at.invariant.held.0 in
    let before = c.loop-at.invariant.held.1 in
    let a = g.K.Sink.text c.args.out.now in
    let b = g.K.Sink.text c.loop-at.out in
    let f = c.step-step.new.self.engine in
    let v = c.step-step.new.self.unmet in
    let made = made_now JobAfterJob all_sound s c.as_slice-list.result.now c.index-list-at.result c.loop-at.at c.loop-at.told c.loop-at.run.engine c.loop-at.run.unmet a b w c.as_slice-list.ensures c.loop-at-test.true c.index-list-at.is f v c.step-step.result (λ h come. c.step-step.ensures.steps s h come) in
    let downs = downs_now JobAfterJob all_sound s c.as_slice-list.result.now c.index-list-at.result c.loop-at.at c.loop-at.told c.loop-at.run.engine c.loop-at.run.unmet a b w c.as_slice-list.ensures c.loop-at-test.true c.index-list-at.is f v c.step-step.result (λ h come. c.step-step.ensures.steps s h come) all_sound refl (λ h come. c.step-step.ensures.downs s h come) c.loop-at.invariant.downs in
    let front = kept_front g.D.Disk.state g.D.Disk.images g.D.Disk.moment g.D.Disk.images_since w.h made.0 c.loop-at.told c.loop-at.keep w.all_told before.keeps in
    let kept = kept_rest g.D.Disk.state g.D.Disk.images g.D.Disk.moment g.D.Disk.images_since w.h made.0 c.loop-at.told v c.loop-at.keep c.keep_from.new.keep c.keep_from.result w.all_told c.in_ok-keep_from.was
    (c.keep_from.ensures (declared_of ds) (made.0 ++ w.h) made.1.tells (told_within made.0 w.h c.loop-at.told w.all_told) front) in
    let d = g.K.Sink.text c.tell_from.new.out in
    let failed : Type 0 = HasRisen (g.K.Sink.faults c.loop-at.out) (g.K.Sink.faults c.tell_from.new.out) in
    let now : Type 0 = HasRisen (g.K.Sink.faults c.args.out.now) (g.K.Sink.faults c.tell_from.new.out) in
    let p = err_from_is_err_and c.from_residual-in_err-told.result c.from_residual-in_err-told.ensures.1 in
    let is = p.1 in
    let same = p.2 in
    let done : c.from_residual-in_err-told.result ≡ Err (breaks.Halted c.in_err-told.field-0.0) = cc in
    let lines : List ℕ = entry_lines ds (drop c.loop-at.told (reverse (made.0 ++ w.h))) in
    let cut = subst (λ (r : Result ℕ Halt). Writes lines now b d r) c.in_err-told.was
    (writes_map ℕ failed now b d lines c.tell_from.result (risen_then (g.K.Sink.faults c.args.out.now) (g.K.Sink.faults c.loop-at.out) (g.K.Sink.faults c.tell_from.new.out) c.loop-at.invariant.rises)
    (c.tell_from.ensures.told (made.0 ++ w.h) made.1.tells)) in
    subst (λ (r : Result (Unit {0}) Break). HasKeptAll g.D.Disk.state g.D.Disk.images g.D.Disk.moment g.D.Disk.images_since c.args.keep.now c.keep_from.new.keep s now a d f v r) (sym done)
    (not_told g.D.Disk.state g.D.Disk.images g.D.Disk.moment g.D.Disk.images_since s w.h made.0 c.args.keep.now c.loop-at.keep c.keep_from.new.keep before now f v c.loop-at.told a b d c.in_err-told.field-0.0 made.1 downs w.all_told w.written kept cut)

pub returns-in_err-at-clause-run : goal.returns-in_err-at-clause-run
returns-in_err-at-clause-run g c =
    let s = c.args.script.now in
    let ds = s.decls.list in
    let w = c.loop-at.invariant.held.0 in
    let before = c.loop-at.invariant.held.1 in
    let a = g.K.Sink.text c.args.out.now in
    let b = g.K.Sink.text c.loop-at.out in
    let f = c.step-step.new.self.engine in
    let v = c.step-step.new.self.unmet in
    let halted = halted_now JobAfterJob all_sound s c.as_slice-list.result.now c.index-list-at.result c.loop-at.at c.loop-at.told c.loop-at.run.engine c.loop-at.run.unmet a b w c.as_slice-list.ensures c.loop-at-test.true c.index-list-at.is f v c.step-step.result (λ h come. c.step-step.ensures.steps s h come) c.in_err-at.field-0.0 c.in_err-at.was in
    let downs = downs_now JobAfterJob all_sound s c.as_slice-list.result.now c.index-list-at.result c.loop-at.at c.loop-at.told c.loop-at.run.engine c.loop-at.run.unmet a b w c.as_slice-list.ensures c.loop-at-test.true c.index-list-at.is f v c.step-step.result (λ h come. c.step-step.ensures.steps s h come) all_sound refl (λ h come. c.step-step.ensures.downs s h come) c.loop-at.invariant.downs in
    let front = kept_front g.D.Disk.state g.D.Disk.images g.D.Disk.moment g.D.Disk.images_since w.h halted.0 c.loop-at.told c.loop-at.keep w.all_told before.keeps in
    let kept = kept_rest g.D.Disk.state g.D.Disk.images g.D.Disk.moment g.D.Disk.images_since w.h halted.0 c.loop-at.told v c.loop-at.keep c.keep_from.new.keep c.keep_from.result w.all_told c.in_ok-keep_from.was
    (c.keep_from.ensures (declared_of ds) (halted.0 ++ w.h) halted.1.tells (told_within halted.0 w.h c.loop-at.told w.all_told) front) in
    let d = g.K.Sink.text c.tell_from.new.out in
    let now : Type 0 = HasRisen (g.K.Sink.faults c.args.out.now) (g.K.Sink.faults c.tell_from.new.out) in
    let p = err_from_is_err_and c.from_residual-in_err-at.result c.from_residual-in_err-at.ensures.1 in
    let is = p.1 in
    let same = p.2 in
    let done : c.from_residual-in_err-at.result ≡ Err (breaks.Halted c.in_err-at.field-0.0) = cc in
    subst (λ (r : Result (Unit {0}) Break). HasKeptAll g.D.Disk.state g.D.Disk.images g.D.Disk.moment g.D.Disk.images_since c.args.keep.now c.keep_from.new.keep s now a d f v r) (sym done)
    (step_halted g.D.Disk.state g.D.Disk.images g.D.Disk.moment g.D.Disk.images_since s w.h halted.0 c.args.keep.now c.loop-at.keep c.keep_from.new.keep before now f v c.loop-at.told a b d c.in_err-at.field-0.0 halted.1 downs w.all_told w.written kept (c.in_ok-told.ensures.told (halted.0 ++ w.h) halted.1.tells))

pub loop-at-init : goal.loop-at-init
loop-at-init g c = record {
  rises = omega arith;
  nodes = inl c.new-clocks.ensures;
  within = omega arith;
  downs = first_downs JobAfterJob c.args.script.now all_sound c.args.run.now.engine c.args.run.now.unmet c.requires.come;
  held = (
    record { h = []; come = c.requires.come; all_told = refl; written = appends_none (g.K.Sink.text c.args.out.now) },
    kept_none g.D.Disk.state g.D.Disk.images g.D.Disk.moment g.D.Disk.images_since c.args.keep.now (λ image was. g.met.D.Disk.only_now c.args.keep.now.disk image was) c.requires.kept,
  );
}

pub overflow_add-at-in-loop-at : goal.overflow_add-at-in-loop-at
overflow_add-at-in-loop-at g c =
    let s = c.args.script.now in
    let ds = s.decls.list in
    let w = c.loop-at.invariant.held.0 in
    let before = c.loop-at.invariant.held.1 in
    let a = g.K.Sink.text c.args.out.now in
    let b = g.K.Sink.text c.loop-at.out in
    let f = c.step-step.new.self.engine in
    let v = c.step-step.new.self.unmet in
    let went = went_now JobAfterJob all_sound s c.as_slice-list.result.now c.index-list-at.result c.loop-at.at c.loop-at.told c.loop-at.run.engine c.loop-at.run.unmet a b w c.as_slice-list.ensures c.loop-at-test.true c.index-list-at.is f v c.step-step.result (λ h come. c.step-step.ensures.steps s h come) c.in_ok-at.field-0 c.in_ok-at.was in
    let within : c.loop-at.at + (c.in_ok-at.field-0 + 1) ≤ length c.as_slice-list.result.now = went.0 in
    search rules

pub overflow_add-at-in-loop-at-2 : goal.overflow_add-at-in-loop-at-2
overflow_add-at-in-loop-at-2 g c =
    let s = c.args.script.now in
    let ds = s.decls.list in
    let w = c.loop-at.invariant.held.0 in
    let before = c.loop-at.invariant.held.1 in
    let a = g.K.Sink.text c.args.out.now in
    let b = g.K.Sink.text c.loop-at.out in
    let f = c.step-step.new.self.engine in
    let v = c.step-step.new.self.unmet in
    let went = went_now JobAfterJob all_sound s c.as_slice-list.result.now c.index-list-at.result c.loop-at.at c.loop-at.told c.loop-at.run.engine c.loop-at.run.unmet a b w c.as_slice-list.ensures c.loop-at-test.true c.index-list-at.is f v c.step-step.result (λ h come. c.step-step.ensures.steps s h come) c.in_ok-at.field-0 c.in_ok-at.was in
    let within : c.loop-at.at + (c.in_ok-at.field-0 + 1) ≤ length c.as_slice-list.result.now = went.0 in
    search rules

pub loop-at-preserved : goal.loop-at-preserved
loop-at-preserved g c =
    let s = c.args.script.now in
    let ds = s.decls.list in
    let w = c.loop-at.invariant.held.0 in
    let before = c.loop-at.invariant.held.1 in
    let a = g.K.Sink.text c.args.out.now in
    let b = g.K.Sink.text c.loop-at.out in
    let f = c.step-step.new.self.engine in
    let v = c.step-step.new.self.unmet in
    let went = went_now JobAfterJob all_sound s c.as_slice-list.result.now c.index-list-at.result c.loop-at.at c.loop-at.told c.loop-at.run.engine c.loop-at.run.unmet a b w c.as_slice-list.ensures c.loop-at-test.true c.index-list-at.is f v c.step-step.result (λ h come. c.step-step.ensures.steps s h come) c.in_ok-at.field-0 c.in_ok-at.was in
    let new = went.1.0 in
    let come = went.1.1 in
    let tells = running_tells (declared_of ds) come.attached (new ++ w.h) f come.running in
    let front = kept_front g.D.Disk.state g.D.Disk.images g.D.Disk.moment g.D.Disk.images_since w.h new c.loop-at.told c.loop-at.keep w.all_told before.keeps in
    let kept = kept_rest g.D.Disk.state g.D.Disk.images g.D.Disk.moment g.D.Disk.images_since w.h new c.loop-at.told v c.loop-at.keep c.keep_from.new.keep c.keep_from.result w.all_told c.in_ok-keep_from.was
    (c.keep_from.ensures (declared_of ds) (new ++ w.h) tells (told_within new w.h c.loop-at.told w.all_told) front) in
    let d = g.K.Sink.text c.tell_from.new.out in
    record {
      rises = omega (arith, c.loop-at.invariant.rises, c.tell_from.ensures.rises);
      nodes = c.tell_from.ensures.nodes;
      within = went.0;
      downs = downs_now JobAfterJob all_sound s c.as_slice-list.result.now c.index-list-at.result c.loop-at.at c.loop-at.told c.loop-at.run.engine c.loop-at.run.unmet a b w c.as_slice-list.ensures c.loop-at-test.true c.index-list-at.is f v c.step-step.result (λ h come. c.step-step.ensures.steps s h come) all_sound refl (λ h come. c.step-step.ensures.downs s h come) c.loop-at.invariant.downs;
      held = next_kept g.D.Disk.state g.D.Disk.images g.D.Disk.moment g.D.Disk.images_since s c.loop-at.at c.loop-at.told c.in_ok-at.field-0 c.in_ok-told.told c.loop-at.run.engine f c.loop-at.run.unmet v a b d w new c.args.keep.now c.loop-at.keep c.keep_from.new.keep come (c.in_ok-told.ensures.count (new ++ w.h) tells) (c.in_ok-told.ensures.told (new ++ w.h) tells) before kept;
    }

pub returns-clause-run : goal.returns-clause-run
returns-clause-run g c =
    let l = ap (λ (xs : List Numbered). length xs) c.as_slice-list.ensures in
    let w = c.loop-at.invariant.held.0 in
    (w.h, subst (λ (rest : List Numbered). HasCome JobAfterJob c.args.script.now rest w.h c.loop-at.run.engine c.loop-at.run.unmet) (drop_all c.loop-at.at c.args.script.now.commands (omega (arith, l, c.loop-at-test.false))) w.come, w.written, c.loop-at.invariant.held.1)

pub returns-in_err-keep_from-clause-downs : goal.returns-in_err-keep_from-clause-downs
returns-in_err-keep_from-clause-downs g c =
    let s = c.args.script.now in
    let w = c.loop-at.invariant.held.0 in
    let a = g.K.Sink.text c.args.out.now in
    let b = g.K.Sink.text c.loop-at.out in
    let f = c.step-step.new.self.engine in
    let v = c.step-step.new.self.unmet in
    downs_now JobAfterJob all_sound s c.as_slice-list.result.now c.index-list-at.result c.loop-at.at c.loop-at.told c.loop-at.run.engine c.loop-at.run.unmet a b w c.as_slice-list.ensures c.loop-at-test.true c.index-list-at.is f v c.step-step.result (λ h come. c.step-step.ensures.steps s h come) all_sound refl (λ h come. c.step-step.ensures.downs s h come) c.loop-at.invariant.downs

pub returns-in_err-told-clause-downs : goal.returns-in_err-told-clause-downs
returns-in_err-told-clause-downs g c =
    let s = c.args.script.now in
    let w = c.loop-at.invariant.held.0 in
    let a = g.K.Sink.text c.args.out.now in
    let b = g.K.Sink.text c.loop-at.out in
    let f = c.step-step.new.self.engine in
    let v = c.step-step.new.self.unmet in
    downs_now JobAfterJob all_sound s c.as_slice-list.result.now c.index-list-at.result c.loop-at.at c.loop-at.told c.loop-at.run.engine c.loop-at.run.unmet a b w c.as_slice-list.ensures c.loop-at-test.true c.index-list-at.is f v c.step-step.result (λ h come. c.step-step.ensures.steps s h come) all_sound refl (λ h come. c.step-step.ensures.downs s h come) c.loop-at.invariant.downs

pub returns-in_err-at-clause-downs : goal.returns-in_err-at-clause-downs
returns-in_err-at-clause-downs g c =
    let s = c.args.script.now in
    let w = c.loop-at.invariant.held.0 in
    let a = g.K.Sink.text c.args.out.now in
    let b = g.K.Sink.text c.loop-at.out in
    let f = c.step-step.new.self.engine in
    let v = c.step-step.new.self.unmet in
    downs_now JobAfterJob all_sound s c.as_slice-list.result.now c.index-list-at.result c.loop-at.at c.loop-at.told c.loop-at.run.engine c.loop-at.run.unmet a b w c.as_slice-list.ensures c.loop-at-test.true c.index-list-at.is f v c.step-step.result (λ h come. c.step-step.ensures.steps s h come) all_sound refl (λ h come. c.step-step.ensures.downs s h come) c.loop-at.invariant.downs
