use Rattle.std.proofs.Common.{rules, ◌≤◌, refl, subst, inr, arith}
use Rattle.pr_crew.specs.Rooms.{total_at}
use Rattle.pr_crew.specs.Works.{own_flows}
use Rattle.pr_flow.specs.Downs.{IsUnsoundFor}
use Rattle.pr_flow.proofs.Downs.{refused_over}
use Rattle.pr_crew.proofs.Phased.{back_again, beside_both, fresh_close, fresh_here, nodes_here, none_added, none_carried, out_of, refused}
use Rattle.pr_crew.proofs.phasing.over_cells.Goals as goal

pub open-requires-clause-here : goal.open-requires-clause-here
open-requires-clause-here g c = let (d, h, p) = c.requires.planned in (d.plan, h, (λ n lt. nodes_here (λ d h. g.H.Held.records c.args.held.now d h) d h (g.H.Held.state c.args.held.now) p.represents n (let many = p.many in omega (arith, lt, many))))

pub returns-in_err-sites-clause-leaves : goal.returns-in_err-sites-clause-leaves
returns-in_err-sites-clause-leaves g c d h p =
    refused (λ d h. g.H.Held.records c.open.new.held d h) d h c.args.inside.now (g.H.Held.state c.open.new.held) c.from_residual.result c.in_err-sites.field-0.0 (search rules)
    (back_again (λ d h. g.H.Held.records c.args.held.now d h) (λ d h. g.H.Held.records c.open.new.held d h) d h (g.H.Held.state c.args.held.now) (g.H.Held.state c.open.new.held) (λ keeps. c.open.ensures.records d h keeps) p.represents c.open.ensures.beside (λ n lt. c.in_err-sites.ensures.back d.plan h (λ n lt. nodes_here (λ d h. g.H.Held.records c.args.held.now d h) d h (g.H.Held.state c.args.held.now) p.represents n (let many = p.many in omega (arith, lt, many))) n (let many = p.many in omega (arith, lt, many))))

pub in_room-requires-clause-out : goal.in_room-requires-clause-out
in_room-requires-clause-out g c κs within = let (d, h, p) = c.requires.planned in (d, h, (g.H.Held.state c.args.held.now), (out_of (λ d h. g.H.Held.records c.args.held.now d h) (λ d h. g.H.Held.records c.open.new.held d h) d h c.args.inside.now c.args.works.now c.args.count _ c.in_ok-sites.sites (g.H.Held.state c.args.held.now) (g.H.Held.state c.open.new.held) (λ keeps. c.open.ensures.records d h keeps) p c.in_ok-sites.ensures.many.0 c.open.ensures.beside (c.in_ok-sites.ensures.opened d.plan h (λ n lt. nodes_here (λ d h. g.H.Held.records c.args.held.now d h) d h (g.H.Held.state c.args.held.now) p.represents n (let many = p.many in omega (arith, lt, many)))) (search rules) c.in_ok-sites.ensures.out), (λ n any lt. c.requires.opening d h p n any (let many = c.in_ok-sites.ensures.many.0 in omega (arith, lt, many))))

pub in_room-requires-clause-history : goal.in_room-requires-clause-history
in_room-requires-clause-history g c κs within n le = c.open.ensures.room n (c.requires.history n (subst (λ k. n ≤ total_at c.args.works.now k) c.in_ok-sites.ensures.many.0 le))

pub close-requires-clause-sites : goal.close-requires-clause-sites
close-requires-clause-sites g c =
    let (d, h, p) = c.requires.planned in
    λ n lt. fresh_close d.plan h _ c.in_ok-sites.sites n ((c.in_ok-sites.ensures.opened d.plan h (λ n lt. nodes_here (λ d h. g.H.Held.records c.args.held.now d h) d h (g.H.Held.state c.args.held.now) p.represents n (let many = p.many in omega (arith, lt, many)))) n (let many = c.in_ok-sites.ensures.many.0 in omega (arith, lt, many)))

pub returns-in-Ok-clause-leaves : goal.returns-in-Ok-clause-leaves
returns-in-Ok-clause-leaves g c d h p = c.in_room.ensures.leaves d h (g.H.Held.state c.args.held.now) (out_of (λ d h. g.H.Held.records c.args.held.now d h) (λ d h. g.H.Held.records c.open.new.held d h) d h c.args.inside.now c.args.works.now c.args.count _ c.in_ok-sites.sites (g.H.Held.state c.args.held.now) (g.H.Held.state c.open.new.held) (λ keeps. c.open.ensures.records d h keeps) p c.in_ok-sites.ensures.many.0 c.open.ensures.beside (c.in_ok-sites.ensures.opened d.plan h (λ n lt. nodes_here (λ d h. g.H.Held.records c.args.held.now d h) d h (g.H.Held.state c.args.held.now) p.represents n (let many = p.many in omega (arith, lt, many)))) (search rules) c.in_ok-sites.ensures.out) (λ n any lt. c.requires.opening d h p n any (let many = c.in_ok-sites.ensures.many.0 in omega (arith, lt, many)))

pub returns-in-Ok-clause-attached : goal.returns-in-Ok-clause-attached
returns-in-Ok-clause-attached g c = let (d, h, p) = c.requires.planned in c.in_room.ensures.attached d h (g.H.Held.state c.args.held.now) (out_of (λ d h. g.H.Held.records c.args.held.now d h) (λ d h. g.H.Held.records c.open.new.held d h) d h c.args.inside.now c.args.works.now c.args.count _ c.in_ok-sites.sites (g.H.Held.state c.args.held.now) (g.H.Held.state c.open.new.held) (λ keeps. c.open.ensures.records d h keeps) p c.in_ok-sites.ensures.many.0 c.open.ensures.beside (c.in_ok-sites.ensures.opened d.plan h (λ n lt. nodes_here (λ d h. g.H.Held.records c.args.held.now d h) d h (g.H.Held.state c.args.held.now) p.represents n (let many = p.many in omega (arith, lt, many)))) (search rules) c.in_ok-sites.ensures.out) (λ n any lt. c.requires.opening d h p n any (let many = c.in_ok-sites.ensures.many.0 in omega (arith, lt, many)))

pub returns-in-Err-clause-leaves : goal.returns-in-Err-clause-leaves
returns-in-Err-clause-leaves g c d h p =
    inr (back_again (λ d h. g.H.Held.records c.args.held.now d h) (λ d h. g.H.Held.records c.close.new.held d h) d h (g.H.Held.state c.args.held.now) (g.H.Held.state c.close.new.held) (λ keeps. c.close.ensures.records d h (c.open.ensures.records d h keeps)) p.represents
    (beside_both (g.H.Held.state c.args.held.now) (g.H.Held.state c.open.new.held) (g.H.Held.state c.close.new.held) c.open.ensures.beside c.close.ensures.beside)
    (λ n lt. fresh_here d.plan h _ c.in_ok-sites.sites (g.H.Held.state c.close.new.held) n ((c.in_ok-sites.ensures.opened d.plan h (λ n lt. nodes_here (λ d h. g.H.Held.records c.args.held.now d h) d h (g.H.Held.state c.args.held.now) p.represents n (let many = p.many in omega (arith, lt, many)))) n (let many = p.many in omega (arith, lt, many))) (λ e q site of_node. c.close.ensures.closed d.plan h n e q site of_node)))

pub returns-in_err-sites-clause-carried : goal.returns-in_err-sites-clause-carried
returns-in_err-sites-clause-carried g c d h p =
    none_carried (λ d h. g.H.Held.records c.open.new.held d h) d h c.args.inside.now (g.H.Held.state c.open.new.held) (g.W.Wires.carried c.args.wires.now) (g.W.Wires.carried c.args.wires.now) c.from_residual.result c.in_err-sites.field-0.0 (search rules)

pub returns-in-Ok-clause-carried : goal.returns-in-Ok-clause-carried
returns-in-Ok-clause-carried g c d h p = c.in_room.ensures.carried d h (g.H.Held.state c.args.held.now) (out_of (λ d h. g.H.Held.records c.args.held.now d h) (λ d h. g.H.Held.records c.open.new.held d h) d h c.args.inside.now c.args.works.now c.args.count _ c.in_ok-sites.sites (g.H.Held.state c.args.held.now) (g.H.Held.state c.open.new.held) (λ keeps. c.open.ensures.records d h keeps) p c.in_ok-sites.ensures.many.0 c.open.ensures.beside (c.in_ok-sites.ensures.opened d.plan h (λ n lt. nodes_here (λ d h. g.H.Held.records c.args.held.now d h) d h (g.H.Held.state c.args.held.now) p.represents n (let many = p.many in omega (arith, lt, many)))) (search rules) c.in_ok-sites.ensures.out) (λ n any lt. c.requires.opening d h p n any (let many = c.in_ok-sites.ensures.many.0 in omega (arith, lt, many)))

pub returns-in_err-sites-clause-downs : goal.returns-in_err-sites-clause-downs
returns-in_err-sites-clause-downs g c d h p =
    none_added (λ x. IsUnsoundFor (g.W.Wires.sound c.args.wires.now) (g.W.Wires.made c.args.wires.now) (own_flows c.args.works.now) x) (λ d h. g.H.Held.records c.open.new.held d h) d h (g.H.Held.state c.open.new.held)
    (back_again (λ d h. g.H.Held.records c.args.held.now d h) (λ d h. g.H.Held.records c.open.new.held d h) d h (g.H.Held.state c.args.held.now) (g.H.Held.state c.open.new.held) (λ keeps. c.open.ensures.records d h keeps) p.represents c.open.ensures.beside (λ n lt. c.in_err-sites.ensures.back d.plan h (λ n lt. nodes_here (λ d h. g.H.Held.records c.args.held.now d h) d h (g.H.Held.state c.args.held.now) p.represents n (let many = p.many in omega (arith, lt, many))) n (let many = p.many in omega (arith, lt, many))))

pub returns-in-Err-clause-downs : goal.returns-in-Err-clause-downs
returns-in-Err-clause-downs g c d h p =
    none_added (λ x. IsUnsoundFor (g.W.Wires.sound c.args.wires.now) (g.W.Wires.made c.args.wires.now) (own_flows c.args.works.now) x) (λ d h. g.H.Held.records c.close.new.held d h) d h (g.H.Held.state c.close.new.held)
    (back_again (λ d h. g.H.Held.records c.args.held.now d h) (λ d h. g.H.Held.records c.close.new.held d h) d h (g.H.Held.state c.args.held.now) (g.H.Held.state c.close.new.held) (λ keeps. c.close.ensures.records d h (c.open.ensures.records d h keeps)) p.represents
    (beside_both (g.H.Held.state c.args.held.now) (g.H.Held.state c.open.new.held) (g.H.Held.state c.close.new.held) c.open.ensures.beside c.close.ensures.beside)
    (λ n lt. fresh_here d.plan h _ c.in_ok-sites.sites (g.H.Held.state c.close.new.held) n ((c.in_ok-sites.ensures.opened d.plan h (λ n lt. nodes_here (λ d h. g.H.Held.records c.args.held.now d h) d h (g.H.Held.state c.args.held.now) p.represents n (let many = p.many in omega (arith, lt, many)))) n (let many = p.many in omega (arith, lt, many))) (λ e q site of_node. c.close.ensures.closed d.plan h n e q site of_node)))

pub returns-in-Ok-clause-downs : goal.returns-in-Ok-clause-downs
returns-in-Ok-clause-downs g c d h p = c.in_room.ensures.downs d h (g.H.Held.state c.args.held.now) (out_of (λ d h. g.H.Held.records c.args.held.now d h) (λ d h. g.H.Held.records c.open.new.held d h) d h c.args.inside.now c.args.works.now c.args.count _ c.in_ok-sites.sites (g.H.Held.state c.args.held.now) (g.H.Held.state c.open.new.held) (λ keeps. c.open.ensures.records d h keeps) p c.in_ok-sites.ensures.many.0 c.open.ensures.beside (c.in_ok-sites.ensures.opened d.plan h (λ n lt. nodes_here (λ d h. g.H.Held.records c.args.held.now d h) d h (g.H.Held.state c.args.held.now) p.represents n (let many = p.many in omega (arith, lt, many)))) (search rules) c.in_ok-sites.ensures.out) (λ n any lt. c.requires.opening d h p n any (let many = c.in_ok-sites.ensures.many.0 in omega (arith, lt, many)))

pub returns-in_err-sites-clause-over : goal.returns-in_err-sites-clause-over
returns-in_err-sites-clause-over g c = refused_over g.W.Wires.made g.W.Wires.sound (own_flows c.args.works.now) c.args.wires.now c.args.wires.now _ c.from_residual.result (search rules)

pub returns-in-Err-clause-over : goal.returns-in-Err-clause-over
returns-in-Err-clause-over g c = refused_over g.W.Wires.made g.W.Wires.sound (own_flows c.args.works.now) c.args.wires.now c.args.wires.now _ _ refl

pub returns-in-Ok-clause-over : goal.returns-in-Ok-clause-over
returns-in-Ok-clause-over g c = record { each_made = λ went. c.in_room.ensures.each_made; lie = c.in_room.ensures.lie }
