use Rattle.std.proofs.Common.{◌∙◌, ◌≡◌, ◌≤◌, ◌+◌, ◌-◌, ◌++◌, [], Err, List, Result, ap, arith, drop, length, take, refl, reverse, rules, subst, sym, ℕ, inl}
use Rattle.std.proofs.lemmas.Result.{err_from_is_err_and}
use Rattle.pr_ports.specs.Faults.{HasRisen}
use Rattle.pr_script.specs.Steps.{Numbered}
use Rattle.pr_sim.specs.Making.{declared_of}
use Rattle.pr_sim.proofs.Story.{running_tells}
use Rattle.pr_story.specs.Scripts.{ByTime}
use Rattle.pr_top.specs.Progress.{HasCome, HasRunAll, Writes, entry_lines}
use Rattle.pr_top.specs.declared.stepping.Halt.{Halt}
use Rattle.pr_top.proofs.Carried.{carried_first, carried_last, carried_turn}
use Rattle.pr_top.proofs.Downs.{first_downs, within_first}
use Rattle.pr_top.proofs.Runs.{cut_run, downs_now, halted_now, last_turn, next_turn, stepped_so, rest_at, stop_run, stops_now, told_within, went_now, within_more, within_turn}
use Rattle.pr_top.proofs.Written.{appends_none, risen_then, writes_map}
use Rattle.pr_top.proofs.beside.Beside.commands.Goals as goal

pub loop-at-init : goal.loop-at-init
loop-at-init g c = record {
  rises = omega arith;
  nodes = inl c.new-clocks.ensures;
  within = omega arith;
  made = let none = c.requires.few in omega (arith, none);
  sound = refl;
  carried = carried_first c.args.script.now c.args.run.now.engine c.args.run.now.unmet (g.W.Wires.carried c.args.wires.now) c.requires.come;
  unsound = within_first (g.W.Wires.sound c.args.wires.now) (g.W.Wires.made c.args.wires.now) c.args.script.now c.requires.few;
  downs = first_downs ByTime c.args.script.now (g.W.Wires.sound c.args.wires.now) c.args.run.now.engine c.args.run.now.unmet c.requires.come;
  held = record { h = []; come = c.requires.come; all_told = refl; written = appends_none (g.K.Sink.text c.args.out.now) };
}

pub tell_from-requires-clause-held : goal.tell_from-requires-clause-held
tell_from-requires-clause-held g c =
    let s = c.args.script.now in
    let ds = s.decls.list in
    let w = c.loop-at.invariant.held in
    let a = g.K.Sink.text c.args.out.now in
    let b = g.K.Sink.text c.loop-at.out in
    let f = c.step-step.new.run.engine in
    let v = c.step-step.new.run.unmet in
    let stops = stops_now ByTime (g.W.Wires.sound c.args.wires.now) s c.as_slice-list.result.now c.index-list-at.result c.loop-at.at c.loop-at.told c.loop-at.run.engine c.loop-at.run.unmet a b w c.as_slice-list.ensures c.loop-at-test.true c.index-list-at.is f v c.step-step.result (stepped_so ByTime (g.W.Wires.sound c.loop-at.wires) (g.W.Wires.sound c.args.wires.now) c.loop-at.invariant.sound s c.index-list-at.result (take (length c.as_slice-list.result.now - (c.loop-at.at + 1)) (drop (c.loop-at.at + 1) c.as_slice-list.result.now)) c.loop-at.run.engine c.loop-at.run.unmet f v c.step-step.result (c.step-step.ensures.steps s (within_turn (g.W.Wires.sound c.args.wires.now) (g.W.Wires.sound c.loop-at.wires) (g.W.Wires.made c.loop-at.wires) s c.as_slice-list.result.now c.index-list-at.result c.loop-at.at c.as_slice-list.ensures c.loop-at-test.true c.index-list-at.is c.loop-at.invariant.sound c.loop-at.invariant.unsound))) in
    (stops.0 ++ w.h, stops.1.tells, told_within stops.0 w.h c.loop-at.told w.all_told)

pub returns-in_err-told-clause-run : goal.returns-in_err-told-clause-run
returns-in_err-told-clause-run g c =
    let s = c.args.script.now in
    let ds = s.decls.list in
    let w = c.loop-at.invariant.held in
    let a = g.K.Sink.text c.args.out.now in
    let b = g.K.Sink.text c.loop-at.out in
    let f = c.step-step.new.run.engine in
    let v = c.step-step.new.run.unmet in
    let d = g.K.Sink.text c.tell_from.new.out in
    let stops = stops_now ByTime (g.W.Wires.sound c.args.wires.now) s c.as_slice-list.result.now c.index-list-at.result c.loop-at.at c.loop-at.told c.loop-at.run.engine c.loop-at.run.unmet a b w c.as_slice-list.ensures c.loop-at-test.true c.index-list-at.is f v c.step-step.result (stepped_so ByTime (g.W.Wires.sound c.loop-at.wires) (g.W.Wires.sound c.args.wires.now) c.loop-at.invariant.sound s c.index-list-at.result (take (length c.as_slice-list.result.now - (c.loop-at.at + 1)) (drop (c.loop-at.at + 1) c.as_slice-list.result.now)) c.loop-at.run.engine c.loop-at.run.unmet f v c.step-step.result (c.step-step.ensures.steps s (within_turn (g.W.Wires.sound c.args.wires.now) (g.W.Wires.sound c.loop-at.wires) (g.W.Wires.made c.loop-at.wires) s c.as_slice-list.result.now c.index-list-at.result c.loop-at.at c.as_slice-list.ensures c.loop-at-test.true c.index-list-at.is c.loop-at.invariant.sound c.loop-at.invariant.unsound))) in
    let failed : Type 0 = HasRisen (g.K.Sink.faults c.loop-at.out) (g.K.Sink.faults c.tell_from.new.out) in
    let now : Type 0 = HasRisen (g.K.Sink.faults c.args.out.now) (g.K.Sink.faults c.tell_from.new.out) in
    let p = err_from_is_err_and c.from_residual.result c.from_residual.ensures.1 in
    let was = c.in_err-told.was in
    let same = p.2 in
    let done : c.tell_from.result ≡ Err p.0 = cc in
    let lines : List ℕ = entry_lines ds (drop c.loop-at.told (reverse (stops.0 ++ w.h))) in
    let cut = subst (λ (r : Result ℕ Halt). Writes lines now b d r) done
    (writes_map ℕ failed now b d lines c.tell_from.result (risen_then (g.K.Sink.faults c.args.out.now) (g.K.Sink.faults c.loop-at.out) (g.K.Sink.faults c.tell_from.new.out) c.loop-at.invariant.rises)
    (c.tell_from.ensures.told (stops.0 ++ w.h) stops.1.tells)) in
    subst (λ (r : Result (Unit {0}) Halt). HasRunAll ByTime (g.W.Wires.sound c.args.wires.now) s now a d f v r) (sym p.1) (cut_run ByTime (g.W.Wires.sound c.args.wires.now) now s w.h stops.0 f v c.loop-at.told a b d p.0 stops.1 w.all_told w.written cut)

pub returns-in_err-at-clause-run : goal.returns-in_err-at-clause-run
returns-in_err-at-clause-run g c =
    let s = c.args.script.now in
    let ds = s.decls.list in
    let w = c.loop-at.invariant.held in
    let a = g.K.Sink.text c.args.out.now in
    let b = g.K.Sink.text c.loop-at.out in
    let f = c.step-step.new.run.engine in
    let v = c.step-step.new.run.unmet in
    let d = g.K.Sink.text c.tell_from.new.out in
    let now : Type 0 = HasRisen (g.K.Sink.faults c.args.out.now) (g.K.Sink.faults c.tell_from.new.out) in
    let p = err_from_is_err_and c.from_residual-in_err-at.result c.from_residual-in_err-at.ensures.1 in
    let was = c.in_err-at.was in
    let same = p.2 in
    let done : c.step-step.result ≡ Err p.0 = cc in
    let halted = halted_now ByTime (g.W.Wires.sound c.args.wires.now) s c.as_slice-list.result.now c.index-list-at.result c.loop-at.at c.loop-at.told c.loop-at.run.engine c.loop-at.run.unmet a b w c.as_slice-list.ensures c.loop-at-test.true c.index-list-at.is f v c.step-step.result (stepped_so ByTime (g.W.Wires.sound c.loop-at.wires) (g.W.Wires.sound c.args.wires.now) c.loop-at.invariant.sound s c.index-list-at.result (take (length c.as_slice-list.result.now - (c.loop-at.at + 1)) (drop (c.loop-at.at + 1) c.as_slice-list.result.now)) c.loop-at.run.engine c.loop-at.run.unmet f v c.step-step.result (c.step-step.ensures.steps s (within_turn (g.W.Wires.sound c.args.wires.now) (g.W.Wires.sound c.loop-at.wires) (g.W.Wires.made c.loop-at.wires) s c.as_slice-list.result.now c.index-list-at.result c.loop-at.at c.as_slice-list.ensures c.loop-at-test.true c.index-list-at.is c.loop-at.invariant.sound c.loop-at.invariant.unsound))) p.0 done in
    subst (λ (r : Result (Unit {0}) Halt). HasRunAll ByTime (g.W.Wires.sound c.args.wires.now) s now a d f v r) (sym p.1)
    (stop_run ByTime (g.W.Wires.sound c.args.wires.now) now s w.h halted.0 f v c.loop-at.told a b d p.0 halted.1 w.all_told w.written (c.in_ok-told.ensures.told (halted.0 ++ w.h) halted.1.tells))

pub overflow_add-at-in-loop-at : goal.overflow_add-at-in-loop-at
overflow_add-at-in-loop-at g c =
    let s = c.args.script.now in
    let ds = s.decls.list in
    let w = c.loop-at.invariant.held in
    let a = g.K.Sink.text c.args.out.now in
    let b = g.K.Sink.text c.loop-at.out in
    let f = c.step-step.new.run.engine in
    let v = c.step-step.new.run.unmet in
    let went = went_now ByTime (g.W.Wires.sound c.args.wires.now) s c.as_slice-list.result.now c.index-list-at.result c.loop-at.at c.loop-at.told c.loop-at.run.engine c.loop-at.run.unmet a b w c.as_slice-list.ensures c.loop-at-test.true c.index-list-at.is f v c.step-step.result (stepped_so ByTime (g.W.Wires.sound c.loop-at.wires) (g.W.Wires.sound c.args.wires.now) c.loop-at.invariant.sound s c.index-list-at.result (take (length c.as_slice-list.result.now - (c.loop-at.at + 1)) (drop (c.loop-at.at + 1) c.as_slice-list.result.now)) c.loop-at.run.engine c.loop-at.run.unmet f v c.step-step.result (c.step-step.ensures.steps s (within_turn (g.W.Wires.sound c.args.wires.now) (g.W.Wires.sound c.loop-at.wires) (g.W.Wires.made c.loop-at.wires) s c.as_slice-list.result.now c.index-list-at.result c.loop-at.at c.as_slice-list.ensures c.loop-at-test.true c.index-list-at.is c.loop-at.invariant.sound c.loop-at.invariant.unsound))) c.in_ok-at.field-0 c.in_ok-at.was in
    let within : c.loop-at.at + (c.in_ok-at.field-0 + 1) ≤ length c.as_slice-list.result.now = went.0 in
    search rules

pub overflow_add-at-in-loop-at-2 : goal.overflow_add-at-in-loop-at-2
overflow_add-at-in-loop-at-2 g c =
    let s = c.args.script.now in
    let ds = s.decls.list in
    let w = c.loop-at.invariant.held in
    let a = g.K.Sink.text c.args.out.now in
    let b = g.K.Sink.text c.loop-at.out in
    let f = c.step-step.new.run.engine in
    let v = c.step-step.new.run.unmet in
    let went = went_now ByTime (g.W.Wires.sound c.args.wires.now) s c.as_slice-list.result.now c.index-list-at.result c.loop-at.at c.loop-at.told c.loop-at.run.engine c.loop-at.run.unmet a b w c.as_slice-list.ensures c.loop-at-test.true c.index-list-at.is f v c.step-step.result (stepped_so ByTime (g.W.Wires.sound c.loop-at.wires) (g.W.Wires.sound c.args.wires.now) c.loop-at.invariant.sound s c.index-list-at.result (take (length c.as_slice-list.result.now - (c.loop-at.at + 1)) (drop (c.loop-at.at + 1) c.as_slice-list.result.now)) c.loop-at.run.engine c.loop-at.run.unmet f v c.step-step.result (c.step-step.ensures.steps s (within_turn (g.W.Wires.sound c.args.wires.now) (g.W.Wires.sound c.loop-at.wires) (g.W.Wires.made c.loop-at.wires) s c.as_slice-list.result.now c.index-list-at.result c.loop-at.at c.as_slice-list.ensures c.loop-at-test.true c.index-list-at.is c.loop-at.invariant.sound c.loop-at.invariant.unsound))) c.in_ok-at.field-0 c.in_ok-at.was in
    let within : c.loop-at.at + (c.in_ok-at.field-0 + 1) ≤ length c.as_slice-list.result.now = went.0 in
    search rules

pub loop-at-preserved : goal.loop-at-preserved
loop-at-preserved g c =
    let s = c.args.script.now in
    let ds = s.decls.list in
    let w = c.loop-at.invariant.held in
    let a = g.K.Sink.text c.args.out.now in
    let b = g.K.Sink.text c.loop-at.out in
    let f = c.step-step.new.run.engine in
    let v = c.step-step.new.run.unmet in
    let d = g.K.Sink.text c.tell_from.new.out in
    let went = went_now ByTime (g.W.Wires.sound c.args.wires.now) s c.as_slice-list.result.now c.index-list-at.result c.loop-at.at c.loop-at.told c.loop-at.run.engine c.loop-at.run.unmet a b w c.as_slice-list.ensures c.loop-at-test.true c.index-list-at.is f v c.step-step.result (stepped_so ByTime (g.W.Wires.sound c.loop-at.wires) (g.W.Wires.sound c.args.wires.now) c.loop-at.invariant.sound s c.index-list-at.result (take (length c.as_slice-list.result.now - (c.loop-at.at + 1)) (drop (c.loop-at.at + 1) c.as_slice-list.result.now)) c.loop-at.run.engine c.loop-at.run.unmet f v c.step-step.result (c.step-step.ensures.steps s (within_turn (g.W.Wires.sound c.args.wires.now) (g.W.Wires.sound c.loop-at.wires) (g.W.Wires.made c.loop-at.wires) s c.as_slice-list.result.now c.index-list-at.result c.loop-at.at c.as_slice-list.ensures c.loop-at-test.true c.index-list-at.is c.loop-at.invariant.sound c.loop-at.invariant.unsound))) c.in_ok-at.field-0 c.in_ok-at.was in
    let new = went.1.0 in
    let come = went.1.1 in
    let tells = running_tells (declared_of ds) come.attached (new ++ w.h) f come.running in
    record {
      rises = omega (arith, c.loop-at.invariant.rises, c.tell_from.ensures.rises);
      nodes = c.tell_from.ensures.nodes;
      within = went.0;
      made = let more = c.step-step.ensures.made in let before = c.loop-at.invariant.made in omega (arith, more, before);
      sound = c.step-step.ensures.sound ∙ c.loop-at.invariant.sound;
      carried = carried_turn s c.as_slice-list.result.now c.index-list-at.result c.loop-at.at c.in_ok-at.field-0 w.h c.loop-at.run.engine f c.loop-at.run.unmet c.step-step.result
          (g.W.Wires.carried c.args.wires.now) (g.W.Wires.carried c.loop-at.wires) (g.W.Wires.carried c.step-step.new.wires) w.come c.as_slice-list.ensures c.loop-at-test.true c.index-list-at.is c.in_ok-at.was
          (λ h come. c.step-step.ensures.carried s h come) c.loop-at.invariant.carried;
      unsound = within_more (g.W.Wires.sound c.args.wires.now) (g.W.Wires.sound c.step-step.new.wires) (g.W.Wires.made c.step-step.new.wires) s c.as_slice-list.result.now c.index-list-at.result c.loop-at.at c.in_ok-at.field-0 c.as_slice-list.ensures c.loop-at-test.true c.index-list-at.is
          (c.step-step.ensures.sound ∙ c.loop-at.invariant.sound) c.step-step.result c.in_ok-at.was
          (c.step-step.ensures.within s (within_turn (g.W.Wires.sound c.args.wires.now) (g.W.Wires.sound c.loop-at.wires) (g.W.Wires.made c.loop-at.wires) s c.as_slice-list.result.now c.index-list-at.result c.loop-at.at c.as_slice-list.ensures c.loop-at-test.true c.index-list-at.is c.loop-at.invariant.sound c.loop-at.invariant.unsound) w.h (subst (λ (xs : List Numbered). HasCome ByTime s xs w.h c.loop-at.run.engine c.loop-at.run.unmet) (rest_at s.commands c.as_slice-list.result.now c.index-list-at.result c.loop-at.at c.as_slice-list.ensures c.loop-at-test.true c.index-list-at.is) w.come));
      downs = downs_now ByTime (g.W.Wires.sound c.args.wires.now) s c.as_slice-list.result.now c.index-list-at.result c.loop-at.at c.loop-at.told c.loop-at.run.engine c.loop-at.run.unmet a b w c.as_slice-list.ensures c.loop-at-test.true c.index-list-at.is f v c.step-step.result (stepped_so ByTime (g.W.Wires.sound c.loop-at.wires) (g.W.Wires.sound c.args.wires.now) c.loop-at.invariant.sound s c.index-list-at.result (take (length c.as_slice-list.result.now - (c.loop-at.at + 1)) (drop (c.loop-at.at + 1) c.as_slice-list.result.now)) c.loop-at.run.engine c.loop-at.run.unmet f v c.step-step.result (c.step-step.ensures.steps s (within_turn (g.W.Wires.sound c.args.wires.now) (g.W.Wires.sound c.loop-at.wires) (g.W.Wires.made c.loop-at.wires) s c.as_slice-list.result.now c.index-list-at.result c.loop-at.at c.as_slice-list.ensures c.loop-at-test.true c.index-list-at.is c.loop-at.invariant.sound c.loop-at.invariant.unsound))) (g.W.Wires.sound c.loop-at.wires) c.loop-at.invariant.sound (c.step-step.ensures.downs s (within_turn (g.W.Wires.sound c.args.wires.now) (g.W.Wires.sound c.loop-at.wires) (g.W.Wires.made c.loop-at.wires) s c.as_slice-list.result.now c.index-list-at.result c.loop-at.at c.as_slice-list.ensures c.loop-at-test.true c.index-list-at.is c.loop-at.invariant.sound c.loop-at.invariant.unsound)) c.loop-at.invariant.downs;
      held = next_turn ByTime (g.W.Wires.sound c.args.wires.now) s c.loop-at.at c.loop-at.told c.in_ok-at.field-0 c.in_ok-told.told c.loop-at.run.engine f c.loop-at.run.unmet v a b d w new come (c.in_ok-told.ensures.count (new ++ w.h) tells) (c.in_ok-told.ensures.told (new ++ w.h) tells);
    }

pub returns-clause-run : goal.returns-clause-run
returns-clause-run g c =
    let l = ap (λ (xs : List Numbered). length xs) c.as_slice-list.ensures in
    last_turn ByTime (g.W.Wires.sound c.args.wires.now) (HasRisen (g.K.Sink.faults c.args.out.now) (g.K.Sink.faults c.loop-at.out)) c.args.script.now c.loop-at.at c.loop-at.told c.loop-at.run.engine c.loop-at.run.unmet (g.K.Sink.text c.args.out.now) (g.K.Sink.text c.loop-at.out)
    c.loop-at.invariant.held (omega (arith, l, c.loop-at-test.false))

pub returns-clause-carried : goal.returns-clause-carried
returns-clause-carried g c =
    let l = ap (λ (xs : List Numbered). length xs) c.as_slice-list.ensures in
    carried_last c.args.script.now c.loop-at.at c.loop-at.run.engine (g.W.Wires.carried c.args.wires.now) (g.W.Wires.carried c.loop-at.wires) (omega (arith, l, c.loop-at-test.false)) c.loop-at.invariant.carried

pub returns-in_err-told-clause-downs : goal.returns-in_err-told-clause-downs
returns-in_err-told-clause-downs g c =
    let s = c.args.script.now in
    let w = c.loop-at.invariant.held in
    let a = g.K.Sink.text c.args.out.now in
    let b = g.K.Sink.text c.loop-at.out in
    let f = c.step-step.new.run.engine in
    let v = c.step-step.new.run.unmet in
    downs_now ByTime (g.W.Wires.sound c.args.wires.now) s c.as_slice-list.result.now c.index-list-at.result c.loop-at.at c.loop-at.told c.loop-at.run.engine c.loop-at.run.unmet a b w c.as_slice-list.ensures c.loop-at-test.true c.index-list-at.is f v c.step-step.result (stepped_so ByTime (g.W.Wires.sound c.loop-at.wires) (g.W.Wires.sound c.args.wires.now) c.loop-at.invariant.sound s c.index-list-at.result (take (length c.as_slice-list.result.now - (c.loop-at.at + 1)) (drop (c.loop-at.at + 1) c.as_slice-list.result.now)) c.loop-at.run.engine c.loop-at.run.unmet f v c.step-step.result (c.step-step.ensures.steps s (within_turn (g.W.Wires.sound c.args.wires.now) (g.W.Wires.sound c.loop-at.wires) (g.W.Wires.made c.loop-at.wires) s c.as_slice-list.result.now c.index-list-at.result c.loop-at.at c.as_slice-list.ensures c.loop-at-test.true c.index-list-at.is c.loop-at.invariant.sound c.loop-at.invariant.unsound))) (g.W.Wires.sound c.loop-at.wires) c.loop-at.invariant.sound (c.step-step.ensures.downs s (within_turn (g.W.Wires.sound c.args.wires.now) (g.W.Wires.sound c.loop-at.wires) (g.W.Wires.made c.loop-at.wires) s c.as_slice-list.result.now c.index-list-at.result c.loop-at.at c.as_slice-list.ensures c.loop-at-test.true c.index-list-at.is c.loop-at.invariant.sound c.loop-at.invariant.unsound)) c.loop-at.invariant.downs

pub returns-in_err-at-clause-downs : goal.returns-in_err-at-clause-downs
returns-in_err-at-clause-downs g c =
    let s = c.args.script.now in
    let w = c.loop-at.invariant.held in
    let a = g.K.Sink.text c.args.out.now in
    let b = g.K.Sink.text c.loop-at.out in
    let f = c.step-step.new.run.engine in
    let v = c.step-step.new.run.unmet in
    downs_now ByTime (g.W.Wires.sound c.args.wires.now) s c.as_slice-list.result.now c.index-list-at.result c.loop-at.at c.loop-at.told c.loop-at.run.engine c.loop-at.run.unmet a b w c.as_slice-list.ensures c.loop-at-test.true c.index-list-at.is f v c.step-step.result (stepped_so ByTime (g.W.Wires.sound c.loop-at.wires) (g.W.Wires.sound c.args.wires.now) c.loop-at.invariant.sound s c.index-list-at.result (take (length c.as_slice-list.result.now - (c.loop-at.at + 1)) (drop (c.loop-at.at + 1) c.as_slice-list.result.now)) c.loop-at.run.engine c.loop-at.run.unmet f v c.step-step.result (c.step-step.ensures.steps s (within_turn (g.W.Wires.sound c.args.wires.now) (g.W.Wires.sound c.loop-at.wires) (g.W.Wires.made c.loop-at.wires) s c.as_slice-list.result.now c.index-list-at.result c.loop-at.at c.as_slice-list.ensures c.loop-at-test.true c.index-list-at.is c.loop-at.invariant.sound c.loop-at.invariant.unsound))) (g.W.Wires.sound c.loop-at.wires) c.loop-at.invariant.sound (c.step-step.ensures.downs s (within_turn (g.W.Wires.sound c.args.wires.now) (g.W.Wires.sound c.loop-at.wires) (g.W.Wires.made c.loop-at.wires) s c.as_slice-list.result.now c.index-list-at.result c.loop-at.at c.as_slice-list.ensures c.loop-at-test.true c.index-list-at.is c.loop-at.invariant.sound c.loop-at.invariant.unsound)) c.loop-at.invariant.downs
