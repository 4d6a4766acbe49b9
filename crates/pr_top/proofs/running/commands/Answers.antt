use Rattle.std.proofs.Common.{◌≡◌, ◌≤◌, ◌+◌, ◌++◌, [], Err, List, Result, ap, arith, drop, length, refl, reverse, rules, subst, sym, ℕ, inl}
use Rattle.std.proofs.lemmas.Result.{err_from_is_err_and}
use Rattle.pr_ports.specs.Faults.{HasRisen}
use Rattle.pr_script.specs.Steps.{Numbered}
use Rattle.pr_sim.specs.Making.{declared_of}
use Rattle.pr_sim.proofs.Story.{running_tells}
use Rattle.pr_story.specs.Scripts.{JobAfterJob}
use Rattle.pr_top.specs.Runs.{all_sound}
use Rattle.pr_top.specs.Progress.{HasRunAll, Writes, entry_lines}
use Rattle.pr_top.specs.declared.stepping.Halt.{Halt}
use Rattle.pr_top.proofs.Downs.{first_downs}
use Rattle.pr_top.proofs.Runs.{cut_run, downs_now, halted_now, last_turn, next_turn, stop_run, stops_now, told_within, went_now}
use Rattle.pr_top.proofs.Written.{appends_none, risen_then, writes_map}
use Rattle.pr_top.proofs.running.commands.Goals as goal

pub loop-at-init : goal.loop-at-init
loop-at-init g c = record {
  rises = omega arith;
  nodes = inl c.new-clocks.ensures;
  within = omega arith;
  downs = first_downs JobAfterJob c.args.script.now all_sound c.args.run.now.engine c.args.run.now.unmet c.requires;
  held = record { h = []; come = c.requires; all_told = refl; written = appends_none (g.K.Sink.text c.args.out.now) };
}

pub tell_from-requires-clause-held : goal.tell_from-requires-clause-held
tell_from-requires-clause-held g c =
    let s = c.args.script.now in
    let ds = s.decls.list in
    let w = c.loop-at.invariant.held in
    let a = g.K.Sink.text c.args.out.now in
    let b = g.K.Sink.text c.loop-at.out in
    let f = c.step-step.new.self.engine in
    let v = c.step-step.new.self.unmet in
    let stops = stops_now JobAfterJob all_sound s c.as_slice-list.result.now c.index-list-at.result c.loop-at.at c.loop-at.told c.loop-at.run.engine c.loop-at.run.unmet a b w c.as_slice-list.ensures c.loop-at-test.true c.index-list-at.is f v c.step-step.result (λ h come. c.step-step.ensures.steps s h come) in
    (stops.0 ++ w.h, stops.1.tells, told_within stops.0 w.h c.loop-at.told w.all_told)

pub returns-in_err-told-clause-run : goal.returns-in_err-told-clause-run
returns-in_err-told-clause-run g c =
    let s = c.args.script.now in
    let ds = s.decls.list in
    let w = c.loop-at.invariant.held in
    let a = g.K.Sink.text c.args.out.now in
    let b = g.K.Sink.text c.loop-at.out in
    let f = c.step-step.new.self.engine in
    let v = c.step-step.new.self.unmet in
    let d = g.K.Sink.text c.tell_from.new.out in
    let stops = stops_now JobAfterJob all_sound s c.as_slice-list.result.now c.index-list-at.result c.loop-at.at c.loop-at.told c.loop-at.run.engine c.loop-at.run.unmet a b w c.as_slice-list.ensures c.loop-at-test.true c.index-list-at.is f v c.step-step.result (λ h come. c.step-step.ensures.steps s h come) in
    let failed : Type 0 = HasRisen (g.K.Sink.faults c.loop-at.out) (g.K.Sink.faults c.tell_from.new.out) in
    let now : Type 0 = HasRisen (g.K.Sink.faults c.args.out.now) (g.K.Sink.faults c.tell_from.new.out) in
    let p = err_from_is_err_and c.from_residual.result c.from_residual.ensures.1 in
    let was = c.in_err-told.was in
    let same = p.2 in
    let done : c.tell_from.result ≡ Err p.0 = cc in
    let lines : List ℕ = entry_lines ds (drop c.loop-at.told (reverse (stops.0 ++ w.h))) in
    let cut = subst (λ (r : Result ℕ Halt). Writes lines now b d r) done
    (writes_map ℕ failed now b d lines c.tell_from.result (risen_then (g.K.Sink.faults c.args.out.now) (g.K.Sink.faults c.loop-at.out) (g.K.Sink.faults c.tell_from.new.out) c.loop-at.invariant.rises)
    (c.tell_from.ensures.told (stops.0 ++ w.h) stops.1.tells)) in
    subst (λ (r : Result (Unit {0}) Halt). HasRunAll JobAfterJob all_sound s now a d f v r) (sym p.1) (cut_run JobAfterJob all_sound now s w.h stops.0 f v c.loop-at.told a b d p.0 stops.1 w.all_told w.written cut)

pub returns-in_err-at-clause-run : goal.returns-in_err-at-clause-run
returns-in_err-at-clause-run g c =
    let s = c.args.script.now in
    let ds = s.decls.list in
    let w = c.loop-at.invariant.held in
    let a = g.K.Sink.text c.args.out.now in
    let b = g.K.Sink.text c.loop-at.out in
    let f = c.step-step.new.self.engine in
    let v = c.step-step.new.self.unmet in
    let d = g.K.Sink.text c.tell_from.new.out in
    let now : Type 0 = HasRisen (g.K.Sink.faults c.args.out.now) (g.K.Sink.faults c.tell_from.new.out) in
    let p = err_from_is_err_and c.from_residual-in_err-at.result c.from_residual-in_err-at.ensures.1 in
    let was = c.in_err-at.was in
    let same = p.2 in
    let done : c.step-step.result ≡ Err p.0 = cc in
    let halted = halted_now JobAfterJob all_sound s c.as_slice-list.result.now c.index-list-at.result c.loop-at.at c.loop-at.told c.loop-at.run.engine c.loop-at.run.unmet a b w c.as_slice-list.ensures c.loop-at-test.true c.index-list-at.is f v c.step-step.result (λ h come. c.step-step.ensures.steps s h come) p.0 done in
    subst (λ (r : Result (Unit {0}) Halt). HasRunAll JobAfterJob all_sound s now a d f v r) (sym p.1)
    (stop_run JobAfterJob all_sound now s w.h halted.0 f v c.loop-at.told a b d p.0 halted.1 w.all_told w.written (c.in_ok-told.ensures.told (halted.0 ++ w.h) halted.1.tells))

pub overflow_add-at-in-loop-at : goal.overflow_add-at-in-loop-at
overflow_add-at-in-loop-at g c =
    let s = c.args.script.now in
    let ds = s.decls.list in
    let w = c.loop-at.invariant.held in
    let a = g.K.Sink.text c.args.out.now in
    let b = g.K.Sink.text c.loop-at.out in
    let f = c.step-step.new.self.engine in
    let v = c.step-step.new.self.unmet in
    let went = went_now JobAfterJob all_sound s c.as_slice-list.result.now c.index-list-at.result c.loop-at.at c.loop-at.told c.loop-at.run.engine c.loop-at.run.unmet a b w c.as_slice-list.ensures c.loop-at-test.true c.index-list-at.is f v c.step-step.result (λ h come. c.step-step.ensures.steps s h come) c.in_ok-at.field-0 c.in_ok-at.was in
    let within : c.loop-at.at + (c.in_ok-at.field-0 + 1) ≤ length c.as_slice-list.result.now = went.0 in
    search rules

pub overflow_add-at-in-loop-at-2 : goal.overflow_add-at-in-loop-at-2
overflow_add-at-in-loop-at-2 g c =
    let s = c.args.script.now in
    let ds = s.decls.list in
    let w = c.loop-at.invariant.held in
    let a = g.K.Sink.text c.args.out.now in
    let b = g.K.Sink.text c.loop-at.out in
    let f = c.step-step.new.self.engine in
    let v = c.step-step.new.self.unmet in
    let went = went_now JobAfterJob all_sound s c.as_slice-list.result.now c.index-list-at.result c.loop-at.at c.loop-at.told c.loop-at.run.engine c.loop-at.run.unmet a b w c.as_slice-list.ensures c.loop-at-test.true c.index-list-at.is f v c.step-step.result (λ h come. c.step-step.ensures.steps s h come) c.in_ok-at.field-0 c.in_ok-at.was in
    let within : c.loop-at.at + (c.in_ok-at.field-0 + 1) ≤ length c.as_slice-list.result.now = went.0 in
    search rules

pub loop-at-preserved : goal.loop-at-preserved
loop-at-preserved g c =
    let s = c.args.script.now in
    let ds = s.decls.list in
    let w = c.loop-at.invariant.held in
    let a = g.K.Sink.text c.args.out.now in
    let b = g.K.Sink.text c.loop-at.out in
    let f = c.step-step.new.self.engine in
    let v = c.step-step.new.self.unmet in
    let d = g.K.Sink.text c.tell_from.new.out in
    let went = went_now JobAfterJob all_sound s c.as_slice-list.result.now c.index-list-at.result c.loop-at.at c.loop-at.told c.loop-at.run.engine c.loop-at.run.unmet a b w c.as_slice-list.ensures c.loop-at-test.true c.index-list-at.is f v c.step-step.result (λ h come. c.step-step.ensures.steps s h come) c.in_ok-at.field-0 c.in_ok-at.was in
    let new = went.1.0 in
    let come = went.1.1 in
    let tells = running_tells (declared_of ds) come.attached (new ++ w.h) f come.running in
    record {
      rises = omega (arith, c.loop-at.invariant.rises, c.tell_from.ensures.rises);
      nodes = c.tell_from.ensures.nodes;
      within = went.0;
      downs = downs_now JobAfterJob all_sound s c.as_slice-list.result.now c.index-list-at.result c.loop-at.at c.loop-at.told c.loop-at.run.engine c.loop-at.run.unmet a b w c.as_slice-list.ensures c.loop-at-test.true c.index-list-at.is f v c.step-step.result (λ h come. c.step-step.ensures.steps s h come) all_sound refl (λ h come. c.step-step.ensures.downs s h come) c.loop-at.invariant.downs;
      held = next_turn JobAfterJob all_sound s c.loop-at.at c.loop-at.told c.in_ok-at.field-0 c.in_ok-told.told c.loop-at.run.engine f c.loop-at.run.unmet v a b d w new come (c.in_ok-told.ensures.count (new ++ w.h) tells) (c.in_ok-told.ensures.told (new ++ w.h) tells);
    }

pub returns-clause-run : goal.returns-clause-run
returns-clause-run g c =
    let l = ap (λ (xs : List Numbered). length xs) c.as_slice-list.ensures in
    last_turn JobAfterJob all_sound (HasRisen (g.K.Sink.faults c.args.out.now) (g.K.Sink.faults c.loop-at.out)) c.args.script.now c.loop-at.at c.loop-at.told c.loop-at.run.engine c.loop-at.run.unmet (g.K.Sink.text c.args.out.now) (g.K.Sink.text c.loop-at.out)
    c.loop-at.invariant.held (omega (arith, l, c.loop-at-test.false))

pub returns-in_err-told-clause-downs : goal.returns-in_err-told-clause-downs
returns-in_err-told-clause-downs g c =
    let s = c.args.script.now in
    let w = c.loop-at.invariant.held in
    let a = g.K.Sink.text c.args.out.now in
    let b = g.K.Sink.text c.loop-at.out in
    let f = c.step-step.new.self.engine in
    let v = c.step-step.new.self.unmet in
    downs_now JobAfterJob all_sound s c.as_slice-list.result.now c.index-list-at.result c.loop-at.at c.loop-at.told c.loop-at.run.engine c.loop-at.run.unmet a b w c.as_slice-list.ensures c.loop-at-test.true c.index-list-at.is f v c.step-step.result (λ h come. c.step-step.ensures.steps s h come) all_sound refl (λ h come. c.step-step.ensures.downs s h come) c.loop-at.invariant.downs

pub returns-in_err-at-clause-downs : goal.returns-in_err-at-clause-downs
returns-in_err-at-clause-downs g c =
    let s = c.args.script.now in
    let w = c.loop-at.invariant.held in
    let a = g.K.Sink.text c.args.out.now in
    let b = g.K.Sink.text c.loop-at.out in
    let f = c.step-step.new.self.engine in
    let v = c.step-step.new.self.unmet in
    downs_now JobAfterJob all_sound s c.as_slice-list.result.now c.index-list-at.result c.loop-at.at c.loop-at.told c.loop-at.run.engine c.loop-at.run.unmet a b w c.as_slice-list.ensures c.loop-at-test.true c.index-list-at.is f v c.step-step.result (λ h come. c.step-step.ensures.steps s h come) all_sound refl (λ h come. c.step-step.ensures.downs s h come) c.loop-at.invariant.downs
