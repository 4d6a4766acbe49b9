use Rattle.std.proofs.Common.{◌++◌, sym, subst, length, arith}
use Rattle.pr_script.specs.Steps.{owners_of}
use Rattle.pr_text.specs.Steps.{stream_job}
use Rattle.pr_crew.specs.Phases.{SameAttached}
use Rattle.pr_crew.proofs.Honest.{still_honest}
use Rattle.pr_crew.specs.Works.{own_flows}
use Rattle.pr_flow.specs.Downs.{IsUnsoundFor}
use Rattle.pr_crew.proofs.Outcome.{can_append, jobs}
use Rattle.pr_crew.proofs.Phased.{adds_downs, all_attached, all_here, all_represented, all_short, can_start, carries, leaves, new_of}
use Rattle.pr_crew.proofs.phasing.in_room.Goals as goal

pub run-stop-requires-clause-can : goal.run-stop-requires-clause-can
run-stop-requires-clause-can g c κs within =
    let (d, h, was, o, opening) = c.requires.out in
    (d.plan, h, owners_of c.args.inside.now, stream_job c.args.inside.now, can_start (λ d h. g.H.Held.records c.args.held.now d h) d h c.args.inside.now c.args.works.now c.args.sites was (g.H.Held.state c.args.held.now) o)

pub run-stop-requires-clause-lines : goal.run-stop-requires-clause-lines
run-stop-requires-clause-lines g c κs within =
    let (d, h, was, o, opening) = c.requires.out in
    (o.planned.can.lines, all_short c.args.inside.now o.planned.can.owned)

pub append-requires : goal.append-requires
append-requires g c =
    let (d, h, was, o, opening) = c.requires.out in
    record {
      can = (
        d,
        h,
        c.args.works.now,
        (length c.args.sites.cells.items),
        (c.run-stop.ensures.ran d.plan h (owners_of c.args.inside.now) (stream_job c.args.inside.now) (can_start (λ d h. g.H.Held.records c.args.held.now d h) d h c.args.inside.now c.args.works.now c.args.sites was (g.H.Held.state c.args.held.now) o)).0.nodes,
        jobs (λ d h. g.H.Held.records c.args.held.now d h) d h c.args.inside.now c.args.works.now (length c.args.sites.cells.items) was (g.H.Held.state c.args.held.now) (g.H.Held.state c.run-stop.new.held) c.run-stop.result o.planned o.beside (c.run-stop.ensures.ran d.plan h (owners_of c.args.inside.now) (stream_job c.args.inside.now) (can_start (λ d h. g.H.Held.records c.args.held.now d h) d h c.args.inside.now c.args.works.now c.args.sites was (g.H.Held.state c.args.held.now) o)).0,
        can_append (λ d h. g.H.Held.records c.args.held.now d h) d h c.args.inside.now c.args.works.now (length c.args.sites.cells.items) was (g.H.Held.state c.args.held.now) (g.H.Held.state c.run-stop.new.held) c.run-stop.result o.planned o.beside (c.run-stop.ensures.ran d.plan h (owners_of c.args.inside.now) (stream_job c.args.inside.now) (can_start (λ d h. g.H.Held.records c.args.held.now d h) d h c.args.inside.now c.args.works.now c.args.sites was (g.H.Held.state c.args.held.now) o)).0,
        c.requires.fits,
        opening,
        λ n le. c.run-stop.ensures.places n (c.requires.history n le),
        c.run-stop.ensures.records d h o.planned.represents.records_are,
      );
    }

pub working-requires : goal.working-requires
working-requires g c =
    let (d, h, was, o, opening) = c.requires.out in
    let all = all_represented (λ d h. g.H.Held.records c.args.held.now d h) d h c.args.inside.now c.args.works.now c.args.sites was (g.H.Held.state c.args.held.now) o (λ d h. g.H.Held.records c.append.new.held d h) (g.H.Held.state c.run-stop.new.held) (g.H.Held.state c.append.new.held) c.run-stop.result (c.run-stop.ensures.ran d.plan h (owners_of c.args.inside.now) (stream_job c.args.inside.now) (can_start (λ d h. g.H.Held.records c.args.held.now d h) d h c.args.inside.now c.args.works.now c.args.sites was (g.H.Held.state c.args.held.now) o)).0 (c.append.ensures.appended d h c.args.works.now (length c.args.sites.cells.items) (c.run-stop.ensures.ran d.plan h (owners_of c.args.inside.now) (stream_job c.args.inside.now) (can_start (λ d h. g.H.Held.records c.args.held.now d h) d h c.args.inside.now c.args.works.now c.args.sites was (g.H.Held.state c.args.held.now) o)).0.nodes (jobs (λ d h. g.H.Held.records c.args.held.now d h) d h c.args.inside.now c.args.works.now (length c.args.sites.cells.items) was (g.H.Held.state c.args.held.now) (g.H.Held.state c.run-stop.new.held) c.run-stop.result o.planned o.beside (c.run-stop.ensures.ran d.plan h (owners_of c.args.inside.now) (stream_job c.args.inside.now) (can_start (λ d h. g.H.Held.records c.args.held.now d h) d h c.args.inside.now c.args.works.now c.args.sites was (g.H.Held.state c.args.held.now) o)).0) (can_append (λ d h. g.H.Held.records c.args.held.now d h) d h c.args.inside.now c.args.works.now (length c.args.sites.cells.items) was (g.H.Held.state c.args.held.now) (g.H.Held.state c.run-stop.new.held) c.run-stop.result o.planned o.beside (c.run-stop.ensures.ran d.plan h (owners_of c.args.inside.now) (stream_job c.args.inside.now) (can_start (λ d h. g.H.Held.records c.args.held.now d h) d h c.args.inside.now c.args.works.now c.args.sites was (g.H.Held.state c.args.held.now) o)).0) c.requires.fits opening (c.run-stop.ensures.records d h o.planned.represents.records_are)) in
    let many = all.many_nodes in
    let before = o.planned.represents.many_nodes in
    let few = o.planned.can.nodes in (
      omega (arith, many, before, few),
      all_here (λ d h. g.H.Held.records c.append.new.held d h) d (new_of (λ d h. g.H.Held.records c.args.held.now d h) d h c.args.inside.now c.args.works.now c.args.sites was (g.H.Held.state c.args.held.now) o (λ d h. g.H.Held.records c.append.new.held d h) (g.H.Held.state c.run-stop.new.held) (g.H.Held.state c.append.new.held) c.run-stop.result (c.run-stop.ensures.ran d.plan h (owners_of c.args.inside.now) (stream_job c.args.inside.now) (can_start (λ d h. g.H.Held.records c.args.held.now d h) d h c.args.inside.now c.args.works.now c.args.sites was (g.H.Held.state c.args.held.now) o)).0 (c.append.ensures.appended d h c.args.works.now (length c.args.sites.cells.items) (c.run-stop.ensures.ran d.plan h (owners_of c.args.inside.now) (stream_job c.args.inside.now) (can_start (λ d h. g.H.Held.records c.args.held.now d h) d h c.args.inside.now c.args.works.now c.args.sites was (g.H.Held.state c.args.held.now) o)).0.nodes (jobs (λ d h. g.H.Held.records c.args.held.now d h) d h c.args.inside.now c.args.works.now (length c.args.sites.cells.items) was (g.H.Held.state c.args.held.now) (g.H.Held.state c.run-stop.new.held) c.run-stop.result o.planned o.beside (c.run-stop.ensures.ran d.plan h (owners_of c.args.inside.now) (stream_job c.args.inside.now) (can_start (λ d h. g.H.Held.records c.args.held.now d h) d h c.args.inside.now c.args.works.now c.args.sites was (g.H.Held.state c.args.held.now) o)).0) (can_append (λ d h. g.H.Held.records c.args.held.now d h) d h c.args.inside.now c.args.works.now (length c.args.sites.cells.items) was (g.H.Held.state c.args.held.now) (g.H.Held.state c.run-stop.new.held) c.run-stop.result o.planned o.beside (c.run-stop.ensures.ran d.plan h (owners_of c.args.inside.now) (stream_job c.args.inside.now) (can_start (λ d h. g.H.Held.records c.args.held.now d h) d h c.args.inside.now c.args.works.now c.args.sites was (g.H.Held.state c.args.held.now) o)).0) c.requires.fits opening (c.run-stop.ensures.records d h o.planned.represents.records_are)) ++ h) (g.H.Held.state c.append.new.held) all,
    )

pub returns-clause-leaves : goal.returns-clause-leaves
returns-clause-leaves g c d h was o opening =
    leaves (λ d h. g.H.Held.records c.args.held.now d h) d h c.args.inside.now c.args.works.now c.args.sites was (g.H.Held.state c.args.held.now) o (λ d h. g.H.Held.records c.append.new.held d h) (g.H.Held.state c.run-stop.new.held) (g.H.Held.state c.append.new.held) c.run-stop.result (c.run-stop.ensures.ran d.plan h (owners_of c.args.inside.now) (stream_job c.args.inside.now) (can_start (λ d h. g.H.Held.records c.args.held.now d h) d h c.args.inside.now c.args.works.now c.args.sites was (g.H.Held.state c.args.held.now) o)).0 (c.append.ensures.appended d h c.args.works.now (length c.args.sites.cells.items) (c.run-stop.ensures.ran d.plan h (owners_of c.args.inside.now) (stream_job c.args.inside.now) (can_start (λ d h. g.H.Held.records c.args.held.now d h) d h c.args.inside.now c.args.works.now c.args.sites was (g.H.Held.state c.args.held.now) o)).0.nodes (jobs (λ d h. g.H.Held.records c.args.held.now d h) d h c.args.inside.now c.args.works.now (length c.args.sites.cells.items) was (g.H.Held.state c.args.held.now) (g.H.Held.state c.run-stop.new.held) c.run-stop.result o.planned o.beside (c.run-stop.ensures.ran d.plan h (owners_of c.args.inside.now) (stream_job c.args.inside.now) (can_start (λ d h. g.H.Held.records c.args.held.now d h) d h c.args.inside.now c.args.works.now c.args.sites was (g.H.Held.state c.args.held.now) o)).0) (can_append (λ d h. g.H.Held.records c.args.held.now d h) d h c.args.inside.now c.args.works.now (length c.args.sites.cells.items) was (g.H.Held.state c.args.held.now) (g.H.Held.state c.run-stop.new.held) c.run-stop.result o.planned o.beside (c.run-stop.ensures.ran d.plan h (owners_of c.args.inside.now) (stream_job c.args.inside.now) (can_start (λ d h. g.H.Held.records c.args.held.now d h) d h c.args.inside.now c.args.works.now c.args.sites was (g.H.Held.state c.args.held.now) o)).0) c.requires.fits opening (c.run-stop.ensures.records d h o.planned.represents.records_are)) (λ d h. g.H.Held.records c.working.new.held d h) c.working.result (g.H.Held.state c.working.new.held) c.working.ensures.state (λ e keeps. c.working.ensures.records d e keeps) c.working.ensures.stop

pub returns-clause-attached : goal.returns-clause-attached
returns-clause-attached g c d h was o opening = subst (λ s. SameAttached was s) (sym c.working.ensures.state) (all_attached (λ d h. g.H.Held.records c.args.held.now d h) d h c.args.inside.now c.args.works.now c.args.sites was (g.H.Held.state c.args.held.now) o (λ d h. g.H.Held.records c.append.new.held d h) (g.H.Held.state c.run-stop.new.held) (g.H.Held.state c.append.new.held) c.run-stop.result (c.run-stop.ensures.ran d.plan h (owners_of c.args.inside.now) (stream_job c.args.inside.now) (can_start (λ d h. g.H.Held.records c.args.held.now d h) d h c.args.inside.now c.args.works.now c.args.sites was (g.H.Held.state c.args.held.now) o)).0 (c.append.ensures.appended d h c.args.works.now (length c.args.sites.cells.items) (c.run-stop.ensures.ran d.plan h (owners_of c.args.inside.now) (stream_job c.args.inside.now) (can_start (λ d h. g.H.Held.records c.args.held.now d h) d h c.args.inside.now c.args.works.now c.args.sites was (g.H.Held.state c.args.held.now) o)).0.nodes (jobs (λ d h. g.H.Held.records c.args.held.now d h) d h c.args.inside.now c.args.works.now (length c.args.sites.cells.items) was (g.H.Held.state c.args.held.now) (g.H.Held.state c.run-stop.new.held) c.run-stop.result o.planned o.beside (c.run-stop.ensures.ran d.plan h (owners_of c.args.inside.now) (stream_job c.args.inside.now) (can_start (λ d h. g.H.Held.records c.args.held.now d h) d h c.args.inside.now c.args.works.now c.args.sites was (g.H.Held.state c.args.held.now) o)).0) (can_append (λ d h. g.H.Held.records c.args.held.now d h) d h c.args.inside.now c.args.works.now (length c.args.sites.cells.items) was (g.H.Held.state c.args.held.now) (g.H.Held.state c.run-stop.new.held) c.run-stop.result o.planned o.beside (c.run-stop.ensures.ran d.plan h (owners_of c.args.inside.now) (stream_job c.args.inside.now) (can_start (λ d h. g.H.Held.records c.args.held.now d h) d h c.args.inside.now c.args.works.now c.args.sites was (g.H.Held.state c.args.held.now) o)).0) c.requires.fits opening (c.run-stop.ensures.records d h o.planned.represents.records_are)))

pub returns-clause-each_made : goal.returns-clause-each_made
returns-clause-each_made g c = c.run-stop.ensures.each_made

pub returns-clause-lie : goal.returns-clause-lie
returns-clause-lie g c = still_honest (λ x. IsUnsoundFor (g.W.Wires.sound c.args.wires.now) (g.W.Wires.made c.args.wires.now) (own_flows c.args.works.now) x) c.run-stop.result c.working.result c.working.ensures.stop c.run-stop.ensures.lie

pub returns-clause-carried : goal.returns-clause-carried
returns-clause-carried g c d h was o opening =
    carries (λ d h. g.H.Held.records c.args.held.now d h) d h c.args.inside.now c.args.works.now c.args.sites was (g.H.Held.state c.args.held.now) o (λ d h. g.H.Held.records c.append.new.held d h) (g.H.Held.state c.run-stop.new.held) (g.H.Held.state c.append.new.held) c.run-stop.result (c.run-stop.ensures.ran d.plan h (owners_of c.args.inside.now) (stream_job c.args.inside.now) (can_start (λ d h. g.H.Held.records c.args.held.now d h) d h c.args.inside.now c.args.works.now c.args.sites was (g.H.Held.state c.args.held.now) o)).0 (c.append.ensures.appended d h c.args.works.now (length c.args.sites.cells.items) (c.run-stop.ensures.ran d.plan h (owners_of c.args.inside.now) (stream_job c.args.inside.now) (can_start (λ d h. g.H.Held.records c.args.held.now d h) d h c.args.inside.now c.args.works.now c.args.sites was (g.H.Held.state c.args.held.now) o)).0.nodes (jobs (λ d h. g.H.Held.records c.args.held.now d h) d h c.args.inside.now c.args.works.now (length c.args.sites.cells.items) was (g.H.Held.state c.args.held.now) (g.H.Held.state c.run-stop.new.held) c.run-stop.result o.planned o.beside (c.run-stop.ensures.ran d.plan h (owners_of c.args.inside.now) (stream_job c.args.inside.now) (can_start (λ d h. g.H.Held.records c.args.held.now d h) d h c.args.inside.now c.args.works.now c.args.sites was (g.H.Held.state c.args.held.now) o)).0) (can_append (λ d h. g.H.Held.records c.args.held.now d h) d h c.args.inside.now c.args.works.now (length c.args.sites.cells.items) was (g.H.Held.state c.args.held.now) (g.H.Held.state c.run-stop.new.held) c.run-stop.result o.planned o.beside (c.run-stop.ensures.ran d.plan h (owners_of c.args.inside.now) (stream_job c.args.inside.now) (can_start (λ d h. g.H.Held.records c.args.held.now d h) d h c.args.inside.now c.args.works.now c.args.sites was (g.H.Held.state c.args.held.now) o)).0) c.requires.fits opening (c.run-stop.ensures.records d h o.planned.represents.records_are)) (λ d h. g.H.Held.records c.working.new.held d h) c.working.result (g.H.Held.state c.working.new.held) c.working.ensures.state (λ e keeps. c.working.ensures.records d e keeps) c.working.ensures.stop (g.W.Wires.carried c.args.wires.now) (g.W.Wires.carried c.run-stop.new.wires) (c.run-stop.ensures.ran d.plan h (owners_of c.args.inside.now) (stream_job c.args.inside.now) (can_start (λ d h. g.H.Held.records c.args.held.now d h) d h c.args.inside.now c.args.works.now c.args.sites was (g.H.Held.state c.args.held.now) o)).1

pub returns-clause-downs : goal.returns-clause-downs
returns-clause-downs g c d h was o opening =
    adds_downs (λ d h. g.H.Held.records c.args.held.now d h) d h c.args.inside.now c.args.works.now c.args.sites was (g.H.Held.state c.args.held.now) o (λ d h. g.H.Held.records c.append.new.held d h) (g.H.Held.state c.run-stop.new.held) (g.H.Held.state c.append.new.held) c.run-stop.result (c.run-stop.ensures.ran d.plan h (owners_of c.args.inside.now) (stream_job c.args.inside.now) (can_start (λ d h. g.H.Held.records c.args.held.now d h) d h c.args.inside.now c.args.works.now c.args.sites was (g.H.Held.state c.args.held.now) o)).0 (c.append.ensures.appended d h c.args.works.now (length c.args.sites.cells.items) (c.run-stop.ensures.ran d.plan h (owners_of c.args.inside.now) (stream_job c.args.inside.now) (can_start (λ d h. g.H.Held.records c.args.held.now d h) d h c.args.inside.now c.args.works.now c.args.sites was (g.H.Held.state c.args.held.now) o)).0.nodes (jobs (λ d h. g.H.Held.records c.args.held.now d h) d h c.args.inside.now c.args.works.now (length c.args.sites.cells.items) was (g.H.Held.state c.args.held.now) (g.H.Held.state c.run-stop.new.held) c.run-stop.result o.planned o.beside (c.run-stop.ensures.ran d.plan h (owners_of c.args.inside.now) (stream_job c.args.inside.now) (can_start (λ d h. g.H.Held.records c.args.held.now d h) d h c.args.inside.now c.args.works.now c.args.sites was (g.H.Held.state c.args.held.now) o)).0) (can_append (λ d h. g.H.Held.records c.args.held.now d h) d h c.args.inside.now c.args.works.now (length c.args.sites.cells.items) was (g.H.Held.state c.args.held.now) (g.H.Held.state c.run-stop.new.held) c.run-stop.result o.planned o.beside (c.run-stop.ensures.ran d.plan h (owners_of c.args.inside.now) (stream_job c.args.inside.now) (can_start (λ d h. g.H.Held.records c.args.held.now d h) d h c.args.inside.now c.args.works.now c.args.sites was (g.H.Held.state c.args.held.now) o)).0) c.requires.fits opening (c.run-stop.ensures.records d h o.planned.represents.records_are)) (λ d h. g.H.Held.records c.working.new.held d h) (g.H.Held.state c.working.new.held) c.working.ensures.state (λ e keeps. c.working.ensures.records d e keeps) (λ x. IsUnsoundFor (g.W.Wires.sound c.args.wires.now) (g.W.Wires.made c.args.wires.now) (own_flows c.args.works.now) x) (c.run-stop.ensures.ran d.plan h (owners_of c.args.inside.now) (stream_job c.args.inside.now) (can_start (λ d h. g.H.Held.records c.args.held.now d h) d h c.args.inside.now c.args.works.now c.args.sites was (g.H.Held.state c.args.held.now) o)).2
