use Rattle.std.proofs.Common.{[], ◌∷◌, ◌+◌, Ok, Err, inr, ap}
use Rattle.std.specs.Prelude.{None}
use Rattle.pr_flow.specs.declared.flow_end.FlowEnd.{FlowEnd}
use Rattle.pr_story.specs.declared.event.Event.{Event}
use Rattle.pr_story.specs.Scripts.{Flow, JobAfterJob, LineBegins, events_of}
use Rattle.pr_sim.specs.Commands.{attached_of}
use Rattle.pr_sim.specs.Flowing.{IsBegun, TurnsEnd}
use Rattle.pr_sim.proofs.Flows.{grows_behind, is_attached}
use Rattle.pr_sim.proofs.Turns.{failed_begins, flow_begins, flow_failed, stop_ends}
use Rattle.pr_sim.proofs.Crossing.{failed_carries, stop_carries}
use Rattle.pr_sim.proofs.Sound.{flow_adds_sound, not_sound}
use Rattle.pr_sim.proofs.engine.Engine.flow.Goals as goal

pub returns-in_err-go_down-in-Err-clause-flowed : goal.returns-in_err-go_down-in-Err-clause-flowed
returns-in_err-go_down-in-Err-clause-flowed g c d attached h k =
    let s = c.args.stream in
    let was = c.in_err-go_down-in-Err.ensures d attached h k (is_attached d attached h c.args.self.now s k c.requires.stream c.requires.attached, tt) in
    flow_failed s c.args.turns d attached h c.go_down.new.self c.in_err-go_down-in-Err.field-0.0 c.from_residual.result c.from_residual.ensures.1
    ([], was.0, failed_begins s c.args.turns (attached_of d attached), was.1)

pub returns-in_err-end-in-Ok-clause-flowed : goal.returns-in_err-end-in-Ok-clause-flowed
returns-in_err-end-in-Ok-clause-flowed g c d attached h k =
    let s = c.args.stream in
    flow_failed s c.args.turns d attached h c.flow_over-end.new.self c.in_err-end-in-Ok.field-0.0 c.from_residual-in_err-end-in-Ok.result c.from_residual-in_err-end-in-Ok.ensures.1
    (grows_behind d attached h [] c.flow_over-end.new.self (λ (end : FlowEnd) es. TurnsEnd s None c.args.turns 0 end (events_of es)) (λ (end : FlowEnd) es. TurnsEnd s None c.args.turns 0 end (events_of es))
    (λ es. IsBegun s None c.args.turns (events_of es)) (λ es. LineBegins JobAfterJob (attached_of d attached) (Flow s c.args.turns) es) (Err c.in_err-end-in-Ok.field-0.0)
    (λ end es is. is) (λ es is. flow_begins s c.args.turns (attached_of d attached) es is) (c.in_err-end-in-Ok.ensures.flowed d attached h k))

pub returns-in_ok-go_down-in-Err-clause-flowed : goal.returns-in_ok-go_down-in-Err-clause-flowed
returns-in_ok-go_down-in-Err-clause-flowed g c d attached h k =
    let s = c.args.stream in
    let made = c.in_ok-go_down-in-Err.ensures d attached h k (is_attached d attached h c.args.self.now s k c.requires.stream c.requires.attached, tt) in
    (made.0 ∷ [], made.1, inr (ap (λ (v : Event). v ∷ []) made.2))

pub returns-in_ok-end-in-Ok-clause-flowed : goal.returns-in_ok-end-in-Ok-clause-flowed
returns-in_ok-end-in-Ok-clause-flowed g c d attached h k =
    stop_ends c.args.stream c.args.turns d attached h c.flow_over-end.new.self c.in_ok-end-in-Ok.field-0 c.stop_of.result c.stop_of.ensures (c.in_ok-end-in-Ok.ensures.flowed d attached h k)

pub returns-in_ok-go_down-in-Err-clause-carried : goal.returns-in_ok-go_down-in-Err-clause-carried
returns-in_ok-go_down-in-Err-clause-carried g c d attached h k =
    let s = c.args.stream in
    let made = c.in_ok-go_down-in-Err.ensures d attached h k (is_attached d attached h c.args.self.now s k c.requires.stream c.requires.attached, tt) in
    failed_carries s d attached h c.go_down.new.self made.0 (g.W.Wires.carried c.args.wires.now) (g.W.Wires.carried c.connect.new.self) made.1 made.2 c.connect.ensures.same.1

pub returns-in_ok-end-in-Ok-clause-carried : goal.returns-in_ok-end-in-Ok-clause-carried
returns-in_ok-end-in-Ok-clause-carried g c d attached h k =
    let w = g.W.Wire.Wire in
    let carried = g.W.Wires.carried in
    stop_carries c.args.stream c.args.turns d attached h c.flow_over-end.new.self (carried c.args.wires.now) (carried c.connect.new.self) (carried c.close.new.self) (w.state c.in-Ok.wire) (w.state c.flow_over-end.new.wire) c.in-Ok.ensures.unused.taken c.connect.ensures.same.1 c.close.ensures.carried
    c.in_ok-end-in-Ok.field-0 c.stop_of.result c.stop_of.ensures (c.in_ok-end-in-Ok.ensures.flowed d attached h k) (c.in_ok-end-in-Ok.ensures.crossed d attached h k)

pub returns-in_err-go_down-in-Err-clause-sound_events : goal.returns-in_err-go_down-in-Err-clause-sound_events
returns-in_err-go_down-in-Err-clause-sound_events g c d attached h k sound = absurd (not_sound (g.W.Wires.sound c.args.wires.now (g.W.Wires.made c.args.wires.now + 1)) sound c.in-Err.ensures.sound)

pub returns-in_ok-go_down-in-Err-clause-sound_events : goal.returns-in_ok-go_down-in-Err-clause-sound_events
returns-in_ok-go_down-in-Err-clause-sound_events g c d attached h k sound = absurd (not_sound (g.W.Wires.sound c.args.wires.now (g.W.Wires.made c.args.wires.now + 1)) sound c.in-Err.ensures.sound)

pub returns-in_err-end-in-Ok-clause-sound_events : goal.returns-in_err-end-in-Ok-clause-sound_events
returns-in_err-end-in-Ok-clause-sound_events g c d attached h k sound =
    flow_adds_sound d attached h c.flow_over-end.new.self (Err c.in_err-end-in-Ok.field-0.0) (c.in_err-end-in-Ok.ensures.sound d attached h k) tt

pub returns-in_ok-end-in-Ok-clause-sound_events : goal.returns-in_ok-end-in-Ok-clause-sound_events
returns-in_ok-end-in-Ok-clause-sound_events g c d attached h k sound =
    flow_adds_sound d attached h c.flow_over-end.new.self (Ok c.in_ok-end-in-Ok.field-0) (c.in_ok-end-in-Ok.ensures.sound d attached h k) (c.in_ok-end-in-Ok.ensures.wire.sound (c.in-Ok.ensures.sound sound)).1
