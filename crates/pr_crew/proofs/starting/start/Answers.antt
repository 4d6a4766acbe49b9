use Rattle.std.proofs.Common.{rules, ◌≡◌, ◌≤◌, ◌+◌, [], ap, take, ◌∙◌, refl, sym, subst, length, arith}
use Rattle.std.specs.Prelude.{All, sum_by}
use Rattle.std.proofs.lemmas.List.{take_all}
use Rattle.pr_flow.specs.Downs.{IsUnsoundFor}
use Rattle.pr_flow.proofs.Downs.{made_on}
use Rattle.std.proofs.lemmas.List.Elements.{All-nil}
use Rattle.std.proofs.lemmas.Option.{slice_get_read}
use Rattle.pr_crew.specs.Starting.{HaveStarted}
use Rattle.pr_crew.specs.Tasks.{HasKnownWire, wires_of}
use Rattle.pr_crew.specs.Works.{own_flow, own_flows}
use Rattle.pr_crew.proofs.Honest.{flows_push, known_push}
use Rattle.pr_crew.proofs.Places.{sum_push}
use Rattle.pr_crew.proofs.Starts.{can_start, none_started, one_started}
use Rattle.pr_crew.proofs.starting.start.Goals as goal

pub loop-work-init : goal.loop-work-init
loop-work-init g c = record {
  started = λ plan h count inside owners streams can.
      subst (λ ts. HaveStarted g.W.Wire.Wire.state plan h count streams (g.H.Held.state c.args.held.now) (g.H.Held.state c.args.held.now) c.args.sites.now c.args.works.now 0 ts) (sym c.requires.empty)
      (none_started g.W.Wire.Wire.state plan h count inside owners streams (g.H.Held.state c.args.held.now) c.args.sites.now c.args.works.now can);
  cells = refl;
  records = λ d h keeps. keeps;
  room = λ n has. has;
  places = c.requires.room;
  made = omega arith;
  out = search rules;
  faults = omega arith;
  sound = refl;
  carried = refl;
  each_made = omega arith;
  known_wires = subst (λ ts. All (HasKnownWire g.W.Wire.Wire.state (λ x. IsUnsoundFor (g.W.Wires.sound c.args.wires.now) (g.W.Wires.made c.args.wires.now) [] x)) ts) (sym c.requires.empty)
      (All-nil (HasKnownWire g.W.Wire.Wire.state (λ x. IsUnsoundFor (g.W.Wires.sound c.args.wires.now) (g.W.Wires.made c.args.wires.now) [] x)));
}

pub start_one-task-requires-clause-can : goal.start_one-task-requires-clause-can
start_one-task-requires-clause-can g c κs within =
    let (plan, h, count, inside, owners, streams, can) = c.requires.can in
    can_start g.W.Wire.Wire.state plan h count inside owners streams (g.H.Held.state c.args.held.now) c.args.sites.now c.args.works.now can
    (g.H.Held.state c.loop-work.held) c.loop-work.sites c.loop-work.work-index c.loop-work.tasks.items (c.loop-work.invariant.started plan h count inside owners streams can) c.work-item.result
    (slice_get_read c.args.works.now (length c.args.works.now) c.loop-work.work-index c.work-item.result refl c.loop-work-test.true c.work-item.is)

pub push_reserved-requires : goal.push_reserved-requires
push_reserved-requires g c =
    let (plan, h, count, inside, owners, streams, can) = c.requires.can in
    let many = (c.loop-work.invariant.started plan h count inside owners streams can).many in
    let places = c.loop-work.invariant.places in
    let within = c.loop-work-test.true in
    omega (arith, many, places, within)

pub loop-work-preserved : goal.loop-work-preserved
loop-work-preserved g c = record {
  started = λ plan h count inside owners streams can.
      subst (λ ts. HaveStarted g.W.Wire.Wire.state plan h count streams (g.H.Held.state c.args.held.now) (g.H.Held.state c.start_one-task.new.held) c.start_one-task.new.sites c.args.works.now (c.loop-work.work-index + 1) ts) (sym c.push_reserved.ensures.items)
      (one_started g.W.Wire.Wire.state plan h count inside owners streams (g.H.Held.state c.args.held.now) c.args.sites.now c.args.works.now can
      (g.H.Held.state c.loop-work.held) c.loop-work.sites c.loop-work.work-index c.loop-work.tasks.items (c.loop-work.invariant.started plan h count inside owners streams can) c.work-item.result c.start_one-task.result
      (g.H.Held.state c.start_one-task.new.held) c.start_one-task.new.sites
      (slice_get_read c.args.works.now (length c.args.works.now) c.loop-work.work-index c.work-item.result refl c.loop-work-test.true c.work-item.is) c.start_one-task.ensures.starts);
  cells = c.start_one-task.ensures.cells ∙ c.loop-work.invariant.cells;
  records = λ d h keeps. c.start_one-task.ensures.records d h (c.loop-work.invariant.records d h keeps);
  room = λ n has. c.start_one-task.ensures.room n (c.loop-work.invariant.room n has);
  places = search rules;
  made = search rules;
  out =
      let then = c.start_one-task.ensures.out in
      let so_far = c.loop-work.invariant.out in
      let more : sum_by wires_of c.push_reserved.new.self.items ≡ sum_by wires_of c.loop-work.tasks.items + wires_of c.start_one-task.result = ap (λ ts. sum_by wires_of ts) c.push_reserved.ensures.items ∙ sum_push wires_of c.loop-work.tasks.items c.start_one-task.result in
      omega (arith, then, so_far, more);
  faults = search rules;
  sound = search rules;
  carried = search rules;
  each_made =
      made_on (g.W.Wires.made c.args.wires.now) (g.W.Wires.made c.loop-work.wires) (g.W.Wires.made c.start_one-task.new.wires) (own_flows (take c.loop-work.work-index c.args.works.now)) (own_flow c.work-item.result) [] (own_flows (take (c.loop-work.work-index + 1) c.args.works.now))
      (flows_push c.args.works.now c.loop-work.work-index c.work-item.result (slice_get_read c.args.works.now (length c.args.works.now) c.loop-work.work-index c.work-item.result refl c.loop-work-test.true c.work-item.is)) refl
      c.loop-work.invariant.each_made c.start_one-task.ensures.one_made;
  known_wires =
      subst (λ ts. All (HasKnownWire g.W.Wire.Wire.state (λ x. IsUnsoundFor (g.W.Wires.sound c.args.wires.now) (g.W.Wires.made c.args.wires.now) (own_flows (take (c.loop-work.work-index + 1) c.args.works.now)) x)) ts) (sym c.push_reserved.ensures.items)
      (known_push g.W.Wire.Wire.state (g.W.Wires.sound c.args.wires.now) (g.W.Wires.sound c.loop-work.wires) (g.W.Wires.made c.args.wires.now) (g.W.Wires.made c.loop-work.wires) (own_flows (take c.loop-work.work-index c.args.works.now)) (own_flow c.work-item.result)
      (own_flows (take (c.loop-work.work-index + 1) c.args.works.now)) c.loop-work.tasks.items c.start_one-task.result c.loop-work.invariant.sound c.loop-work.invariant.each_made
      (flows_push c.args.works.now c.loop-work.work-index c.work-item.result (slice_get_read c.args.works.now (length c.args.works.now) c.loop-work.work-index c.work-item.result refl c.loop-work-test.true c.work-item.is))
      c.loop-work.invariant.known_wires c.start_one-task.ensures.known_wire);
}

pub returns-clause-started : goal.returns-clause-started
returns-clause-started g c plan h count inside owners streams can =
    let end : c.loop-work.work-index ≡ length c.args.works.now = search rules in
    subst (λ i. HaveStarted g.W.Wire.Wire.state plan h count streams (g.H.Held.state c.args.held.now) (g.H.Held.state c.loop-work.held) c.loop-work.sites c.args.works.now i c.loop-work.tasks.items) end
    (c.loop-work.invariant.started plan h count inside owners streams can)

pub returns-clause-each_made : goal.returns-clause-each_made
returns-clause-each_made g c =
    let past : length c.args.works.now ≤ c.loop-work.work-index = search rules in
    subst (λ ws. g.W.Wires.made c.loop-work.wires ≡ g.W.Wires.made c.args.wires.now + length (own_flows ws)) (take_all c.loop-work.work-index c.args.works.now past) c.loop-work.invariant.each_made

pub returns-clause-known_wires : goal.returns-clause-known_wires
returns-clause-known_wires g c =
    let past : length c.args.works.now ≤ c.loop-work.work-index = search rules in
    subst (λ ws. All (HasKnownWire g.W.Wire.Wire.state (λ x. IsUnsoundFor (g.W.Wires.sound c.args.wires.now) (g.W.Wires.made c.args.wires.now) (own_flows ws) x)) c.loop-work.tasks.items) (take_all c.loop-work.work-index c.args.works.now past) c.loop-work.invariant.known_wires
