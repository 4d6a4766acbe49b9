use Rattle.std.proofs.Common.{[], ◌∷◌, ◌+◌, Ok, arith}
use Rattle.std.specs.Prelude.{None, Some}
use Rattle.pr_flow.specs.declared.flow_end.FlowEnd.{FlowEnd}
use Rattle.pr_node.specs.declared.answers.turned.Turned.TheVariants as turned
use Rattle.pr_flow.specs.Ending.{IsSoundEnd}
use Rattle.pr_flow.specs.Sound.{AreSoundEvents}
use Rattle.pr_story.specs.Scripts.{events_of}
use Rattle.pr_sim.specs.Flowing.{IsBegun, TurnsEnd}
use Rattle.pr_sim.proofs.Faults.{this_cause}
use Rattle.pr_sim.proofs.Flows.{grows_behind, idle_leads, just_sent, none_begun, not_grown, same_streams, sent_begins, sent_ends, stale_ends, turn_as}
use Rattle.pr_sim.specs.Crossing.{Crosses}
use Rattle.pr_sim.proofs.Carrying.{none_added}
use Rattle.pr_sim.proofs.Crossing.{adds_behind, idle_crosses, sent_crosses, stale_crosses}
use Rattle.pr_sim.proofs.Sound.{sound_behind, turn_sound}
use Rattle.pr_sim.proofs.engine.Engine.flow_turn.Goals as goal

pub returns-in_err-turn-clause-flowed : goal.returns-in_err-turn-clause-flowed
returns-in_err-turn-clause-flowed g c d attached h k =
    let was = c.in_err-turn.ensures d attached h k in
    not_grown d attached h (λ end es. (left : _) → TurnsEnd c.args.stream None (left + 1) left end (events_of es)) (λ es. (left : _) → IsBegun c.args.stream None (left + 1) (events_of es)) c.turn.new.self _ c.from_residual.result c.from_residual.ensures.1
    (λ fault is. this_cause h c.in_err-turn.field-0.0 fault was.1 is) was.0 (λ left. none_begun c.args.stream left)

pub cross-requires-clause-kept : goal.cross-requires-clause-kept
cross-requires-clause-kept g c =
    let k = c.requires.kept in
    let made = c.in_ok-turn.ensures k.0 k.1 k.2 k.3 in
    let turn = turn_as c.args.stream c.in_ok-turn.field-0 turned.Sent made.0 c.in-Sent.is made.2 in
    (k.0, k.1, made.0 ∷ k.2, made.1, (turn.0, just_sent c.args.stream made.0 k.2 turn))

pub cross-requires-clause-stream : goal.cross-requires-clause-stream
cross-requires-clause-stream g c =
    let k = c.requires.kept in
    let made = c.in_ok-turn.ensures k.0 k.1 k.2 k.3 in
    let same = same_streams k.0 k.1 k.1 k.2 (made.0 ∷ k.2) c.args.self.now c.turn.new.self k.3 made.1 in
    let lt = c.requires.stream in omega arith

pub returns-in-Idle-clause-flowed : goal.returns-in-Idle-clause-flowed
returns-in-Idle-clause-flowed g c d attached h k =
    let made = c.in_ok-turn.ensures d attached h k in
    (made.0 ∷ [], made.1, λ left. idle_leads c.args.stream left made.0 (turn_as c.args.stream c.in_ok-turn.field-0 turned.Idle made.0 c.in-Idle.is made.2))

pub returns-in-Stale-clause-flowed : goal.returns-in-Stale-clause-flowed
returns-in-Stale-clause-flowed g c d attached h k =
    let made = c.in_ok-turn.ensures d attached h k in
    (made.0 ∷ [], made.1, λ left. stale_ends c.args.stream left made.0 (turn_as c.args.stream c.in_ok-turn.field-0 turned.Stale made.0 c.in-Stale.is made.2))

pub returns-in-Sent-clause-flowed : goal.returns-in-Sent-clause-flowed
returns-in-Sent-clause-flowed g c d attached h k =
    let made = c.in_ok-turn.ensures d attached h k in
    let s = c.args.stream in
    let turn = turn_as s c.in_ok-turn.field-0 turned.Sent made.0 c.in-Sent.is made.2 in
    let m = turn.0 in
    grows_behind d attached h (made.0 ∷ []) c.cross.new.self (λ end es. (left : _) → TurnsEnd s (Some m) left left end (events_of es)) (λ end es. (left : _) → TurnsEnd s None (left + 1) left end (events_of es))
    (λ es. (left : _) → IsBegun s (Some m) left (events_of es)) (λ es. (left : _) → IsBegun s None (left + 1) (events_of es)) c.cross.result
    (λ end es is left. sent_ends s left m made.0 end (events_of es) turn.1 (is left)) (λ es is left. sent_begins s left m made.0 (events_of es) turn.1 (is left))
    (c.cross.ensures.flowed d attached (made.0 ∷ h) made.1 m (just_sent s made.0 h turn))

pub returns-in_err-turn-clause-crossed : goal.returns-in_err-turn-clause-crossed
returns-in_err-turn-clause-crossed g c d attached h k =
    let w = g.W.Wire in
    none_added d attached h c.turn.new.self (λ end es. Crosses (w.state c.args.wire.now) (w.state c.args.wire.now) c.args.stream None end (events_of es)) _ c.from_residual.result c.from_residual.ensures.1

pub returns-in-Idle-clause-crossed : goal.returns-in-Idle-clause-crossed
returns-in-Idle-clause-crossed g c d attached h k =
    let w = g.W.Wire in
    let made = c.in_ok-turn.ensures d attached h k in
    (made.0 ∷ [], made.1, idle_crosses c.args.stream (w.state c.args.wire.now) made.0 (turn_as c.args.stream c.in_ok-turn.field-0 turned.Idle made.0 c.in-Idle.is made.2))

pub returns-in-Stale-clause-crossed : goal.returns-in-Stale-clause-crossed
returns-in-Stale-clause-crossed g c d attached h k =
    let w = g.W.Wire in
    let made = c.in_ok-turn.ensures d attached h k in
    (made.0 ∷ [], made.1, stale_crosses c.args.stream (w.state c.args.wire.now) made.0 (turn_as c.args.stream c.in_ok-turn.field-0 turned.Stale made.0 c.in-Stale.is made.2))

pub returns-in-Sent-clause-crossed : goal.returns-in-Sent-clause-crossed
returns-in-Sent-clause-crossed g c d attached h k =
    let w = g.W.Wire in
    let a = w.state c.args.wire.now in
    let b = w.state c.cross.new.wire in
    let made = c.in_ok-turn.ensures d attached h k in
    let s = c.args.stream in
    let turn = turn_as s c.in_ok-turn.field-0 turned.Sent made.0 c.in-Sent.is made.2 in
    let m = turn.0 in
    adds_behind d attached h (made.0 ∷ []) c.cross.new.self (λ end es. Crosses a b s (Some m) end (events_of es)) (λ end es. Crosses a b s None end (events_of es)) c.cross.result
    (λ end es is. sent_crosses a b s m made.0 end (events_of es) turn.1.0 is) (c.cross.ensures.crossed d attached (made.0 ∷ h) made.1 m (just_sent s made.0 h turn))

pub returns-in_err-turn-clause-sound : goal.returns-in_err-turn-clause-sound
returns-in_err-turn-clause-sound g c d attached h k =
    let was = c.in_err-turn.ensures d attached h k in
    not_grown d attached h (λ (end : FlowEnd) es. IsSoundEnd (Ok end) → AreSoundEvents es) (λ es. AreSoundEvents es) c.turn.new.self _ c.from_residual.result c.from_residual.ensures.1 (λ fault is. this_cause h c.in_err-turn.field-0.0 fault was.1 is) was.0 tt

pub returns-in-Idle-clause-sound : goal.returns-in-Idle-clause-sound
returns-in-Idle-clause-sound g c d attached h k =
    let made = c.in_ok-turn.ensures d attached h k in
    (made.0 ∷ [], made.1, λ ends. (turn_sound c.args.stream c.in_ok-turn.field-0 made.0 made.2, tt))

pub returns-in-Stale-clause-sound : goal.returns-in-Stale-clause-sound
returns-in-Stale-clause-sound g c d attached h k =
    let made = c.in_ok-turn.ensures d attached h k in
    (made.0 ∷ [], made.1, λ ends. (turn_sound c.args.stream c.in_ok-turn.field-0 made.0 made.2, tt))

pub returns-in-Sent-clause-sound : goal.returns-in-Sent-clause-sound
returns-in-Sent-clause-sound g c d attached h k =
    let made = c.in_ok-turn.ensures d attached h k in
    let s = c.args.stream in
    let turn = turn_as s c.in_ok-turn.field-0 turned.Sent made.0 c.in-Sent.is made.2 in
    let m = turn.0 in
    sound_behind d attached h (made.0 ∷ []) c.cross.new.self c.cross.result (turn_sound s c.in_ok-turn.field-0 made.0 made.2, tt) (c.cross.ensures.sound d attached (made.0 ∷ h) made.1 m (just_sent s made.0 h turn))
