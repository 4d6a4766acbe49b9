use Rattle.std.proofs.Common.{◌≡◌, ℕ, List, [], ◌∷◌, ap, rules, subst, sym}
use Rattle.pr_flow.specs.Downs.{GoesOver, IsUnsoundFor, flows_of}
use Rattle.pr_script.specs.declared.command.Command.{Command}
use Rattle.pr_story.specs.Scripts.{Flow, Settle}
use Rattle.pr_text.specs.Steps.{line_of}
use Rattle.pr_sim.proofs.Stops.{ends_step, flow_step, no_wires, said_step}
use Rattle.pr_sim.proofs.Carrying.{flow_carries, none_said, settle_said}
use Rattle.pr_sim.proofs.SoundLines.{line_adds, short_adds}
use Rattle.pr_sim.specs.Sound.{AddsDownsOf}
use Rattle.pr_sim.proofs.WireDowns.{flow_adds_downs, flow_over, none_flow, none_over, sound_adds}
use Rattle.pr_sim.proofs.engine.Engine.step.Goals as goal

pub returns-in-Flow-clause-steps : goal.returns-in-Flow-clause-steps
returns-in-Flow-clause-steps g c d attached h k =
    said_step d attached h c.flow.new.self c.args.command.now (Flow c.in-Flow.stream c.in-Flow.turns) c.stopped.result (ap (λ (x : Command). line_of x) c.in-Flow.is)
    (flow_step d attached h c.flow.new.self c.in-Flow.stream c.in-Flow.turns c.flow.result c.stopped.result c.stopped.ensures (c.flow.ensures.flowed d attached h k))

pub returns-in-Settle-clause-steps : goal.returns-in-Settle-clause-steps
returns-in-Settle-clause-steps g c d attached h k =
    said_step d attached h c.settle.new.self c.args.command.now Settle c.went.result (ap (λ (x : Command). line_of x) c.in-Settle.is)
    (ends_step d attached h c.settle.new.self Settle c.settle.result c.went.result c.went.ensures (c.settle.ensures.ends d attached h k))

pub returns-in_default : goal.returns-in_default
returns-in_default g c = record {
  steps = λ d attached h k. ends_step d attached h c.run.new.self (line_of c.args.command.now) c.run.result c.went-in_default.result c.went-in_default.ensures (c.run.ensures d attached h k);
  carried = λ d attached h k. none_said d attached h c.run.new.self c.args.command.now (g.W.Wires.carried c.args.wires.now) c.went-in_default.result (search rules);
  wires = no_wires g.W.Wires.faults g.W.Wires.made g.W.Wires.out g.W.Wires.sound c.args.wires.now;
  over = subst (λ (fs : List ℕ). GoesOver g.W.Wires.made g.W.Wires.sound fs c.args.wires.now c.args.wires.now c.went-in_default.result) (sym (none_flow c.args.command.now (search rules)))
      (none_over g.W.Wires.faults g.W.Wires.made g.W.Wires.out g.W.Wires.sound c.args.wires.now c.run.result c.went-in_default.result c.went-in_default.ensures);
  downs = λ d attached h k.
      sound_adds (λ x. IsUnsoundFor (g.W.Wires.sound c.args.wires.now) (g.W.Wires.made c.args.wires.now) (flows_of (line_of c.args.command.now)) x) d h c.run.new.self
      (short_adds d attached h c.run.new.self c.args.command.now c.run.result (search rules) (c.run.ensures d attached h k));
}

pub returns-in-Flow-clause-carried : goal.returns-in-Flow-clause-carried
returns-in-Flow-clause-carried g c d attached h k =
    flow_carries d attached h c.flow.new.self (g.W.Wires.carried c.args.wires.now) (g.W.Wires.carried c.flow.new.wires) c.args.command.now c.in-Flow.stream c.in-Flow.turns c.flow.result c.stopped.result c.in-Flow.is c.stopped.ensures
    (c.flow.ensures.carried d attached h k)

pub returns-in-Settle-clause-carried : goal.returns-in-Settle-clause-carried
returns-in-Settle-clause-carried g c d attached h k = settle_said d attached h c.settle.new.self c.args.command.now (g.W.Wires.carried c.args.wires.now) c.went.result c.in-Settle.is

pub returns-in-Flow-clause-over : goal.returns-in-Flow-clause-over
returns-in-Flow-clause-over g c =
    let k = c.requires.kept in
    let flows : flows_of (line_of c.args.command.now) ≡ c.in-Flow.stream ∷ [] = ap (λ (x : Command). flows_of (line_of x)) c.in-Flow.is in
    subst (λ (fs : List ℕ). GoesOver g.W.Wires.made g.W.Wires.sound fs c.args.wires.now c.flow.new.wires c.stopped.result) (sym flows)
    (flow_over g.W.Wires.faults g.W.Wires.made g.W.Wires.out g.W.Wires.sound c.in-Flow.stream c.in-Flow.turns c.args.wires.now c.flow.new.wires k.0 k.1 k.2 c.flow.new.self c.flow.result c.stopped.result c.stopped.ensures
    (c.flow.ensures.flowed k.0 k.1 k.2 k.3) c.flow.ensures.wires)

pub returns-in-Flow-clause-downs : goal.returns-in-Flow-clause-downs
returns-in-Flow-clause-downs g c d attached h k =
    let flows : flows_of (line_of c.args.command.now) ≡ c.in-Flow.stream ∷ [] = ap (λ (x : Command). flows_of (line_of x)) c.in-Flow.is in
    subst (λ (fs : List ℕ). AddsDownsOf (λ x. IsUnsoundFor (g.W.Wires.sound c.args.wires.now) (g.W.Wires.made c.args.wires.now) fs x) d h c.flow.new.self) (sym flows)
    (flow_adds_downs g.W.Wires.faults g.W.Wires.made g.W.Wires.out g.W.Wires.sound c.in-Flow.stream c.in-Flow.turns c.args.wires.now d attached h c.flow.new.self c.flow.result
    (c.flow.ensures.flowed d attached h k) (c.flow.ensures.sound_events d attached h k))

pub returns-in-Settle-clause-over : goal.returns-in-Settle-clause-over
returns-in-Settle-clause-over g c =
    let flows : flows_of (line_of c.args.command.now) ≡ [] = ap (λ (x : Command). flows_of (line_of x)) c.in-Settle.is in
    subst (λ (fs : List ℕ). GoesOver g.W.Wires.made g.W.Wires.sound fs c.args.wires.now c.args.wires.now c.went.result) (sym flows)
    (none_over g.W.Wires.faults g.W.Wires.made g.W.Wires.out g.W.Wires.sound c.args.wires.now c.settle.result c.went.result c.went.ensures)

pub returns-in-Settle-clause-downs : goal.returns-in-Settle-clause-downs
returns-in-Settle-clause-downs g c d attached h k =
    sound_adds (λ x. IsUnsoundFor (g.W.Wires.sound c.args.wires.now) (g.W.Wires.made c.args.wires.now) (flows_of (line_of c.args.command.now)) x) d h c.settle.new.self
    (line_adds d attached h c.settle.new.self Settle c.settle.result tt (c.settle.ensures.ends d attached h k))
