use Rattle.std.proofs.Common.{◌≡◌, ◌⊎◌, ap, refl, sym, subst, length, arith, Ok}
use Rattle.pr_flow.specs.Downs.{IsUnsoundFor}
use Rattle.pr_crew.specs.Tasks.{IsSoundWire}
use Rattle.pr_crew.specs.Works.{own_flow}
use Rattle.pr_crew.proofs.Honest.{known_one}
use Rattle.pr_crew.specs.Starting.{CanStartOne, StartsOne}
use Rattle.pr_crew.specs.declared.task.Task.TheVariants as tasks
use Rattle.pr_crew.specs.declared.work.Work.{Work}
use Rattle.pr_flow.specs.declared.flow_end.FlowEnd.TheVariants as ends
use Rattle.pr_crew.proofs.Starts.{still_can_split}
use Rattle.pr_crew.proofs.starting.start_one.Goals as goal

pub split-requires-in-Flow-2 : goal.split-requires-in-Flow-2
split-requires-in-Flow-2 g c =
    still_can_split (g.H.Held.state c.args.held.now) c.args.sites.now c.split-in-Flow.new.self c.in-Flow.work c.split-in-Flow.result
    (subst (λ (w : Work). CanStartOne (g.H.Held.state c.args.held.now) c.args.sites.now w) c.in-Flow.is c.requires.can) c.split-in-Flow.ensures.splits

pub returns-in-Flow-clause-starts : goal.returns-in-Flow-clause-starts
returns-in-Flow-clause-starts g c =
    let x = tasks.Flow (record { work = c.in-Flow.work; source = c.split-in-Flow.result; destination = c.split-in-Flow-2.result; session = c.take_session.result; wire = c.connect.result; end = Ok ends.Done }) in
    subst (λ (w : Work). StartsOne g.W.Wire.Wire.state (g.H.Held.state c.args.held.now) (g.H.Held.state c.take_session.new.self) c.args.sites.now c.split-in-Flow-2.new.self w x) (sym c.in-Flow.is)
    (refl, (c.split-in-Flow.new.self, c.split-in-Flow.ensures.splits, c.split-in-Flow-2.ensures.splits), c.take_session.ensures.was, c.take_session.ensures.state, c.connect.ensures.unused)

pub returns-in-Client-clause-one_made : goal.returns-in-Client-clause-one_made
returns-in-Client-clause-one_made g c = let none : length (own_flow c.args.work.now) ≡ 0 = ap (λ (w : Work). length (own_flow w)) c.in-Client.is in omega (arith, none)

pub returns-in-Flow-clause-one_made : goal.returns-in-Flow-clause-one_made
returns-in-Flow-clause-one_made g c =
    let one : length (own_flow c.args.work.now) ≡ 1 = ap (λ (w : Work). length (own_flow w)) c.in-Flow.is in
    let made = c.connect.ensures.made in
    omega (arith, one, made)

pub returns-in-Flow-clause-known_wire : goal.returns-in-Flow-clause-known_wire
returns-in-Flow-clause-known_wire g c =
    subst (λ (w : Work). IsSoundWire g.W.Wire.Wire.state c.connect.result ⊎ IsUnsoundFor (g.W.Wires.sound c.args.wires.now) (g.W.Wires.made c.args.wires.now) (own_flow w) c.in-Flow.work.stream) (sym c.in-Flow.is)
    (known_one g.W.Wire.Wire.state (g.W.Wires.sound c.args.wires.now) (g.W.Wires.made c.args.wires.now) c.in-Flow.work.stream c.connect.result c.connect.ensures.sound_wire)
