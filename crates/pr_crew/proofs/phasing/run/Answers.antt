use Rattle.std.proofs.Common.{◌≡◌, List, ap, ◌∙◌, sym, subst, length, get_or, arith}
use Rattle.std.specs.Prelude.{None}
use Rattle.pr_crew.specs.Crossing.{AreClosed, JobCrosses}
use Rattle.pr_crew.specs.Tasks.{IsDone, IsReady}
use Rattle.pr_story.specs.Merging.{New}
use Rattle.pr_crew.proofs.Honest.{ends_of, stop_honest}
use Rattle.pr_crew.specs.Works.{own_flows}
use Rattle.pr_flow.specs.Downs.{IsUnsoundFor}
use Rattle.pr_crew.proofs.Whole.{all_wires, can_close, can_end, have_run}
use Rattle.pr_crew.proofs.phasing.run.Goals as goal

pub run_jobs-requires-clause-ready : goal.run_jobs-requires-clause-ready
run_jobs-requires-clause-ready g c κs within =
    let (plan, h, owners, streams, can) = c.requires.can in
    (plan, h, (λ k t at. subst (λ cells. IsReady plan h cells g.W.Wire.Wire.state t) (sym c.as_slice.ensures.value) ((c.start.ensures.started plan h (length c.args.sites.cells.items) c.args.inside.now owners streams can).ready k t at)))

pub end-stop-requires-clause-can : goal.end-stop-requires-clause-can
end-stop-requires-clause-can g c κs within =
    let (plan, h, owners, streams, can) = c.requires.can in
    (plan, h, (length c.args.sites.cells.items), streams, can_end g.W.Wire.Wire.state plan h (length c.args.sites.cells.items) c.args.inside.now owners streams (g.H.Held.state c.args.held.now) (g.H.Held.state c.start.new.held) c.args.sites c.start.new.sites c.args.works.now c.start.new.tasks.items c.run_jobs.new.tasks.items can (c.start.ensures.started plan h (length c.args.sites.cells.items) c.args.inside.now owners streams can) c.run_jobs.ensures.many (λ k u at. subst (λ cells. (xs : List New) × IsDone plan h c.args.inside.now cells k u xs × JobCrosses g.W.Wire.Wire.state u xs) c.as_slice.ensures.value (c.run_jobs.ensures.done plan h (λ k t at. subst (λ cells. IsReady plan h cells g.W.Wire.Wire.state t) (sym c.as_slice.ensures.value) ((c.start.ensures.started plan h (length c.args.sites.cells.items) c.args.inside.now owners streams can).ready k t at)) k u at)) c.run_jobs.ensures.stay)

pub end-stop-requires-clause-out : goal.end-stop-requires-clause-out
end-stop-requires-clause-out g c κs within =
    let out = c.start.ensures.out in
    let same = all_wires c.start.new.tasks.items c.run_jobs.new.tasks.items c.run_jobs.ensures.many c.run_jobs.ensures.stay in
    omega (arith, out, same)

pub close-requires-clause-sites : goal.close-requires-clause-sites
close-requires-clause-sites g c =
    let (plan, h, owners, streams, can) = c.requires.can in
    let same : length c.end-stop.new.sites.cells.items ≡ (length c.args.sites.cells.items) = ap (λ cs. length cs.items) (c.end-stop.ensures.cells ∙ c.start.ensures.cells) in
    λ n lt. can_close g.W.Wire.Wire.state plan h (length c.args.sites.cells.items) c.args.inside.now owners streams (g.H.Held.state c.args.held.now) (g.H.Held.state c.start.new.held) c.args.sites c.start.new.sites c.args.works.now c.start.new.tasks.items c.run_jobs.new.tasks.items can (c.start.ensures.started plan h (length c.args.sites.cells.items) c.args.inside.now owners streams can) c.run_jobs.ensures.many (λ k u at. subst (λ cells. (xs : List New) × IsDone plan h c.args.inside.now cells k u xs × JobCrosses g.W.Wire.Wire.state u xs) c.as_slice.ensures.value (c.run_jobs.ensures.done plan h (λ k t at. subst (λ cells. IsReady plan h cells g.W.Wire.Wire.state t) (sym c.as_slice.ensures.value) ((c.start.ensures.started plan h (length c.args.sites.cells.items) c.args.inside.now owners streams can).ready k t at)) k u at)) c.run_jobs.ensures.stay (g.H.Held.state c.end-stop.new.held) c.end-stop.new.sites (c.end-stop.ensures.ended plan h (length c.args.sites.cells.items) streams (can_end g.W.Wire.Wire.state plan h (length c.args.sites.cells.items) c.args.inside.now owners streams (g.H.Held.state c.args.held.now) (g.H.Held.state c.start.new.held) c.args.sites c.start.new.sites c.args.works.now c.start.new.tasks.items c.run_jobs.new.tasks.items can (c.start.ensures.started plan h (length c.args.sites.cells.items) c.args.inside.now owners streams can) c.run_jobs.ensures.many (λ k u at. subst (λ cells. (xs : List New) × IsDone plan h c.args.inside.now cells k u xs × JobCrosses g.W.Wire.Wire.state u xs) c.as_slice.ensures.value (c.run_jobs.ensures.done plan h (λ k t at. subst (λ cells. IsReady plan h cells g.W.Wire.Wire.state t) (sym c.as_slice.ensures.value) ((c.start.ensures.started plan h (length c.args.sites.cells.items) c.args.inside.now owners streams can).ready k t at)) k u at)) c.run_jobs.ensures.stay)) c.end-stop.ensures.cells n (omega (arith, lt, same))

pub close-requires-clause-slots : goal.close-requires-clause-slots
close-requires-clause-slots g c =
    let (plan, h, owners, streams, can) = c.requires.can in
    let same : length c.end-stop.new.sites.cells.items ≡ (length c.args.sites.cells.items) = ap (λ cs. length cs.items) (c.end-stop.ensures.cells ∙ c.start.ensures.cells) in
    let nodes = ap (λ l. length l) ((c.end-stop.ensures.ended plan h (length c.args.sites.cells.items) streams (can_end g.W.Wire.Wire.state plan h (length c.args.sites.cells.items) c.args.inside.now owners streams (g.H.Held.state c.args.held.now) (g.H.Held.state c.start.new.held) c.args.sites c.start.new.sites c.args.works.now c.start.new.tasks.items c.run_jobs.new.tasks.items can (c.start.ensures.started plan h (length c.args.sites.cells.items) c.args.inside.now owners streams can) c.run_jobs.ensures.many (λ k u at. subst (λ cells. (xs : List New) × IsDone plan h c.args.inside.now cells k u xs × JobCrosses g.W.Wire.Wire.state u xs) c.as_slice.ensures.value (c.run_jobs.ensures.done plan h (λ k t at. subst (λ cells. IsReady plan h cells g.W.Wire.Wire.state t) (sym c.as_slice.ensures.value) ((c.start.ensures.started plan h (length c.args.sites.cells.items) c.args.inside.now owners streams can).ready k t at)) k u at)) c.run_jobs.ensures.stay)).beside.nodes ∙ (c.start.ensures.started plan h (length c.args.sites.cells.items) c.args.inside.now owners streams can).beside.nodes) in
    let slots = c.requires.slots in
    omega (arith, same, nodes, slots)

pub close-requires-clause-out : goal.close-requires-clause-out
close-requires-clause-out g c =
    let (plan, h, owners, streams, can) = c.requires.can in
    let same : length c.end-stop.new.sites.cells.items ≡ (length c.args.sites.cells.items) = ap (λ cs. length cs.items) (c.end-stop.ensures.cells ∙ c.start.ensures.cells) in
    λ n lt. ap (λ l. get_or l n None) ((c.end-stop.ensures.ended plan h (length c.args.sites.cells.items) streams (can_end g.W.Wire.Wire.state plan h (length c.args.sites.cells.items) c.args.inside.now owners streams (g.H.Held.state c.args.held.now) (g.H.Held.state c.start.new.held) c.args.sites c.start.new.sites c.args.works.now c.start.new.tasks.items c.run_jobs.new.tasks.items can (c.start.ensures.started plan h (length c.args.sites.cells.items) c.args.inside.now owners streams can) c.run_jobs.ensures.many (λ k u at. subst (λ cells. (xs : List New) × IsDone plan h c.args.inside.now cells k u xs × JobCrosses g.W.Wire.Wire.state u xs) c.as_slice.ensures.value (c.run_jobs.ensures.done plan h (λ k t at. subst (λ cells. IsReady plan h cells g.W.Wire.Wire.state t) (sym c.as_slice.ensures.value) ((c.start.ensures.started plan h (length c.args.sites.cells.items) c.args.inside.now owners streams can).ready k t at)) k u at)) c.run_jobs.ensures.stay)).beside.nodes ∙ (c.start.ensures.started plan h (length c.args.sites.cells.items) c.args.inside.now owners streams can).beside.nodes) ∙ c.requires.nodes n (omega (arith, lt, same))

pub returns-clause-ran : goal.returns-clause-ran
returns-clause-ran g c plan h owners streams can =
    have_run g.W.Wire.Wire.state plan h (length c.args.sites.cells.items) c.args.inside.now owners streams (g.H.Held.state c.args.held.now) (g.H.Held.state c.start.new.held) c.args.sites c.start.new.sites c.args.works.now c.start.new.tasks.items c.run_jobs.new.tasks.items can (c.start.ensures.started plan h (length c.args.sites.cells.items) c.args.inside.now owners streams can) c.run_jobs.ensures.many (λ k u at. subst (λ cells. (xs : List New) × IsDone plan h c.args.inside.now cells k u xs × JobCrosses g.W.Wire.Wire.state u xs) c.as_slice.ensures.value (c.run_jobs.ensures.done plan h (λ k t at. subst (λ cells. IsReady plan h cells g.W.Wire.Wire.state t) (sym c.as_slice.ensures.value) ((c.start.ensures.started plan h (length c.args.sites.cells.items) c.args.inside.now owners streams can).ready k t at)) k u at)) c.run_jobs.ensures.stay (g.H.Held.state c.end-stop.new.held) c.end-stop.new.sites (c.end-stop.ensures.ended plan h (length c.args.sites.cells.items) streams (can_end g.W.Wire.Wire.state plan h (length c.args.sites.cells.items) c.args.inside.now owners streams (g.H.Held.state c.args.held.now) (g.H.Held.state c.start.new.held) c.args.sites c.start.new.sites c.args.works.now c.start.new.tasks.items c.run_jobs.new.tasks.items can (c.start.ensures.started plan h (length c.args.sites.cells.items) c.args.inside.now owners streams can) c.run_jobs.ensures.many (λ k u at. subst (λ cells. (xs : List New) × IsDone plan h c.args.inside.now cells k u xs × JobCrosses g.W.Wire.Wire.state u xs) c.as_slice.ensures.value (c.run_jobs.ensures.done plan h (λ k t at. subst (λ cells. IsReady plan h cells g.W.Wire.Wire.state t) (sym c.as_slice.ensures.value) ((c.start.ensures.started plan h (length c.args.sites.cells.items) c.args.inside.now owners streams can).ready k t at)) k u at)) c.run_jobs.ensures.stay)) c.end-stop.ensures.cells (g.H.Held.state c.close.new.held) c.close.ensures.beside (λ n d p site of_node. c.close.ensures.closed plan h n d p site of_node) c.end-stop.result c.end-stop.ensures.stop (g.W.Wires.carried c.args.wires.now) (g.W.Wires.carried c.end-stop.new.wires)
    (subst (λ carried. AreClosed g.W.Wire.Wire.state c.run_jobs.new.tasks.items carried (g.W.Wires.carried c.end-stop.new.wires)) c.start.ensures.carried c.end-stop.ensures.carried)
    (λ x. IsUnsoundFor (g.W.Wires.sound c.args.wires.now) (g.W.Wires.made c.args.wires.now) (own_flows c.args.works.now) x) (ends_of (λ x. IsUnsoundFor (g.W.Wires.sound c.args.wires.now) (g.W.Wires.made c.args.wires.now) (own_flows c.args.works.now) x) g.W.Wire.Wire.state c.start.new.tasks.items c.run_jobs.new.tasks.items c.start.ensures.known_wires c.run_jobs.ensures.many c.run_jobs.ensures.stay c.run_jobs.ensures.honest)

pub returns-clause-records : goal.returns-clause-records
returns-clause-records g c d h keeps = c.close.ensures.records d h (c.end-stop.ensures.records d h (c.start.ensures.records d h keeps))

pub returns-clause-places : goal.returns-clause-places
returns-clause-places g c n has = c.close.ensures.room n (c.end-stop.ensures.room n (c.start.ensures.room n has))

pub returns-clause-out : goal.returns-clause-out
returns-clause-out g c =
    let out = c.start.ensures.out in
    let then = c.end-stop.ensures.out in
    let same = all_wires c.start.new.tasks.items c.run_jobs.new.tasks.items c.run_jobs.ensures.many c.run_jobs.ensures.stay in
    omega (arith, out, then, same)

pub returns-clause-each_made : goal.returns-clause-each_made
returns-clause-each_made g c = c.end-stop.ensures.same.0 ∙ c.start.ensures.each_made

pub returns-clause-lie : goal.returns-clause-lie
returns-clause-lie g c = stop_honest (λ x. IsUnsoundFor (g.W.Wires.sound c.args.wires.now) (g.W.Wires.made c.args.wires.now) (own_flows c.args.works.now) x) c.run_jobs.new.tasks.items c.end-stop.result (ends_of (λ x. IsUnsoundFor (g.W.Wires.sound c.args.wires.now) (g.W.Wires.made c.args.wires.now) (own_flows c.args.works.now) x) g.W.Wire.Wire.state c.start.new.tasks.items c.run_jobs.new.tasks.items c.start.ensures.known_wires c.run_jobs.ensures.many c.run_jobs.ensures.stay c.run_jobs.ensures.honest) c.end-stop.ensures.stop
