use Rattle.std.proofs.Common.{rules, All, ap, ◌∙◌, sym, subst, length, arith}
use Rattle.std.specs.List.{flat_map}
use Rattle.pr_crew.specs.Phases.{RepresentsNodes, SameAttached}
use Rattle.pr_crew.specs.Sound.{AddsDownsOf}
use Rattle.pr_crew.proofs.Honest.{flows_planned}
use Rattle.pr_flow.specs.Downs.{GoesOver, IsUnsoundFor, flow_of}
use Rattle.pr_flow.proofs.Downs.{refused_over}
use Rattle.pr_script.specs.Steps.{owners_of}
use Rattle.pr_text.specs.Steps.{jobs_of}
use Rattle.pr_crew.specs.Sites.{IsHere}
use Rattle.pr_crew.specs.Works.{IsSmall}
use Rattle.pr_crew.proofs.Phased.{all_here, move_records, nodes_here, none_added, none_carried, planned_now, refused, works_many}
use Rattle.pr_crew.proofs.phasing.phase.Goals as goal

pub count_nodes-count-requires : goal.count_nodes-count-requires
count_nodes-count-requires g c = let (d, h, r) = c.requires.kept in (c.requires.can.nodes, all_here (λ d h. g.H.Held.records c.args.held.now d h) d h (g.H.Held.state c.args.held.now) r)

pub take-requires-clause-here : goal.take-requires-clause-here
take-requires-clause-here g c = let (d, h, r) = c.requires.kept in (d.plan, h, λ n lt. nodes_here (λ d h. g.H.Held.records c.args.held.now d h) d h (g.H.Held.state c.args.held.now) r n (let many = c.count_nodes-count.ensures in omega (arith, lt, many)))

pub take-requires-clause-small : goal.take-requires-clause-small
take-requires-clause-small g c =
    let (d, h, r) = c.requires.kept in
    let few = (works_many d.plan h (length (g.H.Held.state c.args.held.now).nodes) c.args.inside.now c.as_slice.result.now c.in_ok-works.works.items (c.in_ok-works.ensures.works d h r.records_are)) in
    let same = ap (λ l. length l) c.as_slice-2.ensures.value in
    let owners = ap (λ l. length l) (c.as_slice.ensures ∙ c.in_ok-owners.ensures) in
    let jobs = c.requires.can.jobs in
    let nodes = c.requires.can.nodes in
    let many = c.count_nodes-count.ensures in (
      subst (λ l. All IsSmall l) (sym c.as_slice-2.ensures.value) c.in_ok-works.ensures.small,
      omega (arith, few, same, owners, jobs),
      omega (arith, nodes, many),
    )

pub returns-in_err-room-clause-leaves : goal.returns-in_err-room-clause-leaves
returns-in_err-room-clause-leaves g c d h r =
    refused (λ d h. g.H.Held.records c.take.new.held d h) d h c.args.inside.now (g.H.Held.state c.take.new.held) c.from_residual-in_err-room.result c.in_err-room.field-0.0 (search rules)
    (move_records (λ d h. g.H.Held.records c.args.held.now d h) (λ d h. g.H.Held.records c.take.new.held d h) d h (g.H.Held.state c.take.new.held) (λ keeps. c.take.ensures.records d h keeps) (subst (λ s. RepresentsNodes (λ d h. g.H.Held.records c.args.held.now d h) d h s) (sym c.take.ensures.state) r))

pub over_cells-requires-clause-planned : goal.over_cells-requires-clause-planned
over_cells-requires-clause-planned g c κs within = let (d, h, r) = c.requires.kept in (d, h, (planned_now (λ d h. g.H.Held.records c.args.held.now d h) (λ d h. g.H.Held.records c.take.new.held d h) d h c.args.inside.now c.in_ok-works.works.items c.as_slice-3.result.now c.count_nodes-count.result c.as_slice.result.now (g.H.Held.state c.args.held.now) (g.H.Held.state c.take.new.held) (λ keeps. c.take.ensures.records d h keeps) r c.requires.can (c.requires.distinct d h r) (c.as_slice.ensures ∙ c.in_ok-owners.ensures) (c.in_ok-works.ensures.works d h r.records_are) c.as_slice-3.ensures.value c.count_nodes-count.ensures c.take.ensures.state))

pub over_cells-requires-clause-jobs : goal.over_cells-requires-clause-jobs
over_cells-requires-clause-jobs g c κs within =
    let (d, h, r) = c.requires.kept in
    let few = (works_many d.plan h (length (g.H.Held.state c.args.held.now).nodes) c.args.inside.now c.as_slice.result.now c.in_ok-works.works.items (c.in_ok-works.ensures.works d h r.records_are)) in
    let same = ap (λ l. length l) c.as_slice-3.ensures.value in
    let owners = ap (λ l. length l) (c.as_slice.ensures ∙ c.in_ok-owners.ensures) in
    let jobs = c.requires.can.jobs in
    omega (arith, few, same, owners, jobs)

pub over_cells-requires-clause-opening : goal.over_cells-requires-clause-opening
over_cells-requires-clause-opening g c κs within d h p =
    c.in_ok-room.ensures.opened d.plan h (λ n lt. subst (λ s. IsHere d.plan h s n) c.take.ensures.state (nodes_here (λ d h. g.H.Held.records c.take.new.held d h) d h (g.H.Held.state c.take.new.held) p.represents n (let many = p.many in omega (arith, lt, many))))

pub returns-clause-leaves : goal.returns-clause-leaves
returns-clause-leaves g c d h r = c.over_cells.ensures.leaves d h (planned_now (λ d h. g.H.Held.records c.args.held.now d h) (λ d h. g.H.Held.records c.take.new.held d h) d h c.args.inside.now c.in_ok-works.works.items c.as_slice-3.result.now c.count_nodes-count.result c.as_slice.result.now (g.H.Held.state c.args.held.now) (g.H.Held.state c.take.new.held) (λ keeps. c.take.ensures.records d h keeps) r c.requires.can (c.requires.distinct d h r) (c.as_slice.ensures ∙ c.in_ok-owners.ensures) (c.in_ok-works.ensures.works d h r.records_are) c.as_slice-3.ensures.value c.count_nodes-count.ensures c.take.ensures.state)

pub returns-clause-attached : goal.returns-clause-attached
returns-clause-attached g c = subst (λ s. SameAttached s (g.H.Held.state c.over_cells.new.held)) c.take.ensures.state c.over_cells.ensures.attached

pub returns-in_err-room-clause-carried : goal.returns-in_err-room-clause-carried
returns-in_err-room-clause-carried g c d h r =
    none_carried (λ d h. g.H.Held.records c.take.new.held d h) d h c.args.inside.now (g.H.Held.state c.take.new.held) (g.W.Wires.carried c.args.wires.now) (g.W.Wires.carried c.args.wires.now) c.from_residual-in_err-room.result c.in_err-room.field-0.0 (search rules)

pub returns-clause-carried : goal.returns-clause-carried
returns-clause-carried g c d h r = c.over_cells.ensures.carried d h (planned_now (λ d h. g.H.Held.records c.args.held.now d h) (λ d h. g.H.Held.records c.take.new.held d h) d h c.args.inside.now c.in_ok-works.works.items c.as_slice-3.result.now c.count_nodes-count.result c.as_slice.result.now (g.H.Held.state c.args.held.now) (g.H.Held.state c.take.new.held) (λ keeps. c.take.ensures.records d h keeps) r c.requires.can (c.requires.distinct d h r) (c.as_slice.ensures ∙ c.in_ok-owners.ensures) (c.in_ok-works.ensures.works d h r.records_are) c.as_slice-3.ensures.value c.count_nodes-count.ensures c.take.ensures.state)

pub returns-in_err-room-clause-downs : goal.returns-in_err-room-clause-downs
returns-in_err-room-clause-downs g c d h r =
    none_added (λ x. IsUnsoundFor (g.W.Wires.sound c.args.wires.now) (g.W.Wires.made c.args.wires.now) (flat_map flow_of (jobs_of c.args.inside.now)) x) (λ d h. g.H.Held.records c.take.new.held d h) d h (g.H.Held.state c.take.new.held)
    (move_records (λ d h. g.H.Held.records c.args.held.now d h) (λ d h. g.H.Held.records c.take.new.held d h) d h (g.H.Held.state c.take.new.held) (λ keeps. c.take.ensures.records d h keeps) (subst (λ s. RepresentsNodes (λ d h. g.H.Held.records c.args.held.now d h) d h s) (sym c.take.ensures.state) r))

pub returns-in_err-room-clause-over : goal.returns-in_err-room-clause-over
returns-in_err-room-clause-over g c = refused_over g.W.Wires.made g.W.Wires.sound (flat_map flow_of (jobs_of c.args.inside.now)) c.args.wires.now c.args.wires.now _ c.from_residual-in_err-room.result (search rules)

pub returns-in_err-works-clause-over : goal.returns-in_err-works-clause-over
returns-in_err-works-clause-over g c = refused_over g.W.Wires.made g.W.Wires.sound (flat_map flow_of (jobs_of c.args.inside.now)) c.args.wires.now c.args.wires.now _ c.from_residual-in_err-works.result (search rules)

pub returns-in_err-owners-clause-over : goal.returns-in_err-owners-clause-over
returns-in_err-owners-clause-over g c = refused_over g.W.Wires.made g.W.Wires.sound (flat_map flow_of (jobs_of c.args.inside.now)) c.args.wires.now c.args.wires.now _ c.from_residual.result (search rules)

pub returns-clause-over : goal.returns-clause-over
returns-clause-over g c =
    let (d, h, r) = c.requires.kept in
    (subst (λ fs. GoesOver g.W.Wires.made g.W.Wires.sound fs c.args.wires.now c.over_cells.new.wires c.over_cells.result)
    (flows_planned d.plan h c.count_nodes-count.result c.args.inside.now (owners_of c.args.inside.now) c.as_slice-3.result.now (planned_now (λ d h. g.H.Held.records c.args.held.now d h) (λ d h. g.H.Held.records c.take.new.held d h) d h c.args.inside.now c.in_ok-works.works.items c.as_slice-3.result.now c.count_nodes-count.result c.as_slice.result.now (g.H.Held.state c.args.held.now) (g.H.Held.state c.take.new.held) (λ keeps. c.take.ensures.records d h keeps) r c.requires.can (c.requires.distinct d h r) (c.as_slice.ensures ∙ c.in_ok-owners.ensures) (c.in_ok-works.ensures.works d h r.records_are) c.as_slice-3.ensures.value c.count_nodes-count.ensures c.take.ensures.state).planned)
    c.over_cells.ensures.over)

pub returns-clause-downs : goal.returns-clause-downs
returns-clause-downs g c d h r =
    (subst (λ fs. AddsDownsOf (λ x. IsUnsoundFor (g.W.Wires.sound c.args.wires.now) (g.W.Wires.made c.args.wires.now) fs x) (λ d h. g.H.Held.records c.over_cells.new.held d h) d h (g.H.Held.state c.over_cells.new.held))
    (flows_planned d.plan h c.count_nodes-count.result c.args.inside.now (owners_of c.args.inside.now) c.as_slice-3.result.now (planned_now (λ d h. g.H.Held.records c.args.held.now d h) (λ d h. g.H.Held.records c.take.new.held d h) d h c.args.inside.now c.in_ok-works.works.items c.as_slice-3.result.now c.count_nodes-count.result c.as_slice.result.now (g.H.Held.state c.args.held.now) (g.H.Held.state c.take.new.held) (λ keeps. c.take.ensures.records d h keeps) r c.requires.can (c.requires.distinct d h r) (c.as_slice.ensures ∙ c.in_ok-owners.ensures) (c.in_ok-works.ensures.works d h r.records_are) c.as_slice-3.ensures.value c.count_nodes-count.ensures c.take.ensures.state).planned)
    (c.over_cells.ensures.downs d h (planned_now (λ d h. g.H.Held.records c.args.held.now d h) (λ d h. g.H.Held.records c.take.new.held d h) d h c.args.inside.now c.in_ok-works.works.items c.as_slice-3.result.now c.count_nodes-count.result c.as_slice.result.now (g.H.Held.state c.args.held.now) (g.H.Held.state c.take.new.held) (λ keeps. c.take.ensures.records d h keeps) r c.requires.can (c.requires.distinct d h r) (c.as_slice.ensures ∙ c.in_ok-owners.ensures) (c.in_ok-works.ensures.works d h r.records_are) c.as_slice-3.ensures.value c.count_nodes-count.ensures c.take.ensures.state)))
