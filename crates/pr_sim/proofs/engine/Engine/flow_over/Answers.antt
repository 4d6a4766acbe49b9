use Rattle.std.proofs.Common.{rules, [], ◌++◌, ◌-◌, ◌≤◌, Ok, Err, reverse, sym, subst, arith}
use Rattle.std.specs.Prelude.{ℕ, None}
use Rattle.pr_flow.specs.declared.flow_end.FlowEnd.{FlowEnd}
use Rattle.pr_flow.specs.Ending.{IsSoundEnd}
use Rattle.pr_flow.specs.Sound.{AreSoundEvents}
use Rattle.pr_story.specs.Scripts.{events_of}
use Rattle.pr_sim.specs.Flowing.{IsBegun, LeadsTo, TurnsEnd}
use Rattle.pr_sim.proofs.Flows.{grows_behind, same_streams, stays_attached, still_grown}
use Rattle.pr_sim.proofs.Turns.{at_an_end, begins_behind, ends_behind, leads_still, wire_behind, wire_goes_on}
use Rattle.pr_sim.specs.Crossing.{Crosses}
use Rattle.pr_sim.proofs.Carrying.{none_added}
use Rattle.pr_sim.proofs.Crossing.{adds_behind, crosses_behind, crosses_done, crosses_on}
use Rattle.pr_sim.proofs.Sound.{sound_behind}
use Rattle.pr_sim.proofs.engine.Engine.flow_over.Goals as goal

pub returns-in_err-end-clause-flowed : goal.returns-in_err-end-clause-flowed
returns-in_err-end-clause-flowed g c d attached h k =
    let l = c.loop-left in
    let s = c.args.stream in
    let some : 1 ≤ l.left = omega (arith, c.loop-left-test.true) in
    let first = l.invariant.grown d attached h k in
    still_grown d attached h (λ (end : FlowEnd) es. TurnsEnd s None c.args.turns 0 end (events_of es)) (λ (end : FlowEnd) es. TurnsEnd s None c.args.turns (l.left - 1) end (events_of es))
    (λ es. IsBegun s None c.args.turns (events_of es)) c.flow_turn.new.self c.in_err-end.field-0.0 c.from_residual.result c.from_residual.ensures.1
    (grows_behind d attached h first.0 c.flow_turn.new.self (λ (end : FlowEnd) es. (left : ℕ) → TurnsEnd s None _ left end (events_of es)) (λ (end : FlowEnd) es. TurnsEnd s None c.args.turns (l.left - 1) end (events_of es))
    (λ es. (left : ℕ) → IsBegun s None _ (events_of es)) (λ es. IsBegun s None c.args.turns (events_of es)) (Err c.in_err-end.field-0.0)
    (λ end es is. ends_behind s c.args.turns l.left end (reverse first.0) es some first.2 is) (λ es is. begins_behind s c.args.turns l.left (reverse first.0) es some first.2 is)
    (c.in_err-end.ensures.flowed d attached (first.0 ++ h) first.1))

pub loop-left-init : goal.loop-left-init
loop-left-init g c = record {
  kept = c.requires.kept;
  stream = c.requires.stream;
  attached = c.requires.attached;
  grown = λ d attached h k. ([], k, λ rest are. are);
  crosses = λ d attached h k. ([], k, search rules);
  sounds = λ d attached h k. ([], k, tt);
  wire = search rules;
}

pub returns-in_default : goal.returns-in_default
returns-in_default g c =
    let l = c.loop-left in
    let s = c.args.stream in
    let w = g.W.Wire in
    let some : 1 ≤ l.left = omega (arith, c.loop-left-test.true) in
    record {
      flowed = λ d attached h k.
          let first = l.invariant.grown d attached h k in
          let then = grows_behind d attached h first.0 c.flow_turn.new.self (λ (end : FlowEnd) es. (left : ℕ) → TurnsEnd s None _ left end (events_of es)) (λ (end : FlowEnd) es. TurnsEnd s None c.args.turns (l.left - 1) end (events_of es))
          (λ es. (left : ℕ) → IsBegun s None _ (events_of es)) (λ es. IsBegun s None c.args.turns (events_of es)) (Ok c.in_ok-end.end)
          (λ end es is. ends_behind s c.args.turns l.left end (reverse first.0) es some first.2 is) (λ es is. begins_behind s c.args.turns l.left (reverse first.0) es some first.2 is)
          (c.in_ok-end.ensures.flowed d attached (first.0 ++ h) first.1) in
          (then.0, then.1, at_an_end s c.args.turns (l.left - 1) c.in_ok-end.end (events_of (reverse then.0)) c.in_default.not-Done then.2);
      crossed = λ d attached h k.
          let first = l.invariant.crosses d attached h k in
          adds_behind d attached h first.0 c.flow_turn.new.self (λ end es. Crosses (w.state l.wire) (w.state c.flow_turn.new.wire) s None end (events_of es)) (λ end es. Crosses (w.state c.args.wire.now) (w.state c.flow_turn.new.wire) s None end (events_of es)) (Ok c.in_ok-end.end)
          (λ end es is. crosses_behind (w.state c.args.wire.now) (w.state l.wire) (w.state c.flow_turn.new.wire) s (reverse first.0) es end first.2 is) (c.in_ok-end.ensures.crossed d attached (first.0 ++ h) first.1);
      wire = wire_behind (w.state c.args.wire.now) (w.state l.wire) (w.state c.flow_turn.new.wire) c.in_ok-end.end l.invariant.wire c.in_ok-end.ensures.wire.0;
      sound = λ d attached h k.
          let first = l.invariant.sounds d attached h k in
          sound_behind d attached h first.0 c.flow_turn.new.self (Ok c.in_ok-end.end) first.2 (c.in_ok-end.ensures.sound d attached (first.0 ++ h) first.1);
    }

pub loop-left-preserved : goal.loop-left-preserved
loop-left-preserved g c =
    let l = c.loop-left in
    let s = c.args.stream in
    let w = g.W.Wire in
    let some : 1 ≤ l.left = omega (arith, c.loop-left-test.true) in
    let k = l.invariant.kept in
    let then = c.in_ok-end.ensures.flowed k.0 k.1 k.2 k.3 in
    record {
      kept = (k.0, k.1, then.0 ++ k.2, then.1);
      stream = let same = same_streams k.0 k.1 k.1 k.2 (then.0 ++ k.2) l.self c.flow_turn.new.self k.3 then.1 in let lt = l.invariant.stream in omega arith;
      attached = stays_attached k.0 k.1 k.2 (then.0 ++ k.2) l.self c.flow_turn.new.self s k.3 then.1 l.invariant.stream l.invariant.attached;
      grown = λ d attached h r.
          let first = l.invariant.grown d attached h r in
          let more = grows_behind d attached h first.0 c.flow_turn.new.self (λ (end : FlowEnd) es. (left : ℕ) → TurnsEnd s None _ left end (events_of es)) (λ (end : FlowEnd) es. TurnsEnd s None c.args.turns (l.left - 1) end (events_of es))
          (λ es. (left : ℕ) → IsBegun s None _ (events_of es)) (λ es. IsBegun s None c.args.turns (events_of es)) (Ok c.in_ok-end.end)
          (λ end es is. ends_behind s c.args.turns l.left end (reverse first.0) es some first.2 is) (λ es is. begins_behind s c.args.turns l.left (reverse first.0) es some first.2 is)
          (c.in_ok-end.ensures.flowed d attached (first.0 ++ h) first.1) in
          (more.0, more.1, leads_still s c.args.turns (l.left - 1) c.in_ok-end.end (events_of (reverse more.0)) c.in-Done.is more.2);
      crosses = λ d attached h r.
          let first = l.invariant.crosses d attached h r in
          let more = adds_behind d attached h first.0 c.flow_turn.new.self (λ end es. Crosses (w.state l.wire) (w.state c.flow_turn.new.wire) s None end (events_of es)) (λ end es. Crosses (w.state c.args.wire.now) (w.state c.flow_turn.new.wire) s None end (events_of es)) (Ok c.in_ok-end.end)
          (λ end es is. crosses_behind (w.state c.args.wire.now) (w.state l.wire) (w.state c.flow_turn.new.wire) s (reverse first.0) es end first.2 is) (c.in_ok-end.ensures.crossed d attached (first.0 ++ h) first.1) in
          (more.0, more.1, crosses_on (w.state c.args.wire.now) (w.state c.flow_turn.new.wire) s c.in_ok-end.end (events_of (reverse more.0)) c.in-Done.is more.2);
      sounds = λ d attached h r.
          let first = l.invariant.sounds d attached h r in
          let more = sound_behind d attached h first.0 c.flow_turn.new.self (Ok c.in_ok-end.end) first.2 (c.in_ok-end.ensures.sound d attached (first.0 ++ h) first.1) in
          (more.0, more.1, more.2 (subst (λ (x : FlowEnd). IsSoundEnd (Ok x)) (sym c.in-Done.is) tt));
      wire = wire_goes_on (w.state c.args.wire.now) (w.state l.wire) (w.state c.flow_turn.new.wire) c.in_ok-end.end l.invariant.wire c.in_ok-end.ensures.wire.0 c.in_ok-end.ensures.wire.1 c.in-Done.is;
    }

pub returns-clause-flowed : goal.returns-clause-flowed
returns-clause-flowed g c d attached h k =
    let l = c.loop-left in
    let first = l.invariant.grown d attached h k in
    (first.0, first.1, subst (λ (n : ℕ). LeadsTo c.args.stream None c.args.turns n (events_of (reverse first.0))) (omega (arith, c.loop-left-test.false)) first.2)

pub returns-in_err-end-clause-crossed : goal.returns-in_err-end-clause-crossed
returns-in_err-end-clause-crossed g c d attached h k =
    let w = g.W.Wire in
    none_added d attached h c.flow_turn.new.self (λ end es. Crosses (w.state c.args.wire.now) (w.state c.flow_turn.new.wire) c.args.stream None end (events_of es)) _ c.from_residual.result c.from_residual.ensures.1

pub returns-clause-crossed : goal.returns-clause-crossed
returns-clause-crossed g c d attached h k =
    let w = g.W.Wire in
    let l = c.loop-left in
    let first = l.invariant.crosses d attached h k in
    (first.0, first.1, crosses_done (w.state c.args.wire.now) (w.state l.wire) c.args.stream (events_of (reverse first.0)) first.2)

pub returns-in_err-end-clause-sound : goal.returns-in_err-end-clause-sound
returns-in_err-end-clause-sound g c d attached h k =
    let first = c.loop-left.invariant.sounds d attached h k in
    still_grown d attached h (λ (end : FlowEnd) es. IsSoundEnd (Ok end) → AreSoundEvents es) (λ (end : FlowEnd) es. IsSoundEnd (Ok end) → AreSoundEvents es) (λ es. AreSoundEvents es) c.flow_turn.new.self c.in_err-end.field-0.0 c.from_residual.result c.from_residual.ensures.1
    (sound_behind d attached h first.0 c.flow_turn.new.self (Err c.in_err-end.field-0.0) first.2 (c.in_err-end.ensures.sound d attached (first.0 ++ h) first.1))

pub returns-clause-sound : goal.returns-clause-sound
returns-clause-sound g c d attached h k = let first = c.loop-left.invariant.sounds d attached h k in (first.0, first.1, λ ends. first.2)
