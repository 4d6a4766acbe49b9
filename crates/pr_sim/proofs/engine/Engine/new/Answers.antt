use Rattle.std.proofs.Common.{◌≡◌, ◌<◌, ◌≤◌, List, sym, subst, length, get_or, take}
use Rattle.pr_script.specs.declared.decl.Decl.{Decl}
use Rattle.pr_sim.specs.Making.{HasRoom, IsMadeOf}
use Rattle.pr_sim.proofs.Makings.{has_room, made_runs}
use Rattle.pr_story.proofs.NewestFirst.{with_next, with_whole}
use Rattle.pr_sim.proofs.engine.Engine.new.Goals as goal

pub declare-requires : goal.declare-requires
declare-requires c =
    let within = subst (λ (ds : List Decl). c.loop-decl.decl-index < length ds) c.as_slice-decl-items.ensures c.loop-decl-test.true in
    let is = subst (λ (ds : List Decl). c.decl-item.result ≡ get_or ds c.loop-decl.decl-index c.decl-item.result) c.as_slice-decl-items.ensures c.decl-item.is in
    record { room = subst (λ (d : Decl). HasRoom c.loop-decl.engine d) (sym is) (has_room c.args.decls.now.list c.loop-decl.engine c.loop-decl.decl-index c.decl-item.result c.requires.good within c.loop-decl.invariant) }

pub loop-decl-preserved : goal.loop-decl-preserved
loop-decl-preserved c =
    let within = subst (λ (ds : List Decl). c.loop-decl.decl-index < length ds) c.as_slice-decl-items.ensures c.loop-decl-test.true in
    let is = subst (λ (ds : List Decl). c.decl-item.result ≡ get_or ds c.loop-decl.decl-index c.decl-item.result) c.as_slice-decl-items.ensures c.decl-item.is in
    with_next (λ (ds : List Decl). IsMadeOf ds c.declare.new.self) c.args.decls.now.list c.loop-decl.decl-index c.decl-item.result within is (c.in_ok-declare.ensures (take c.loop-decl.decl-index c.args.decls.now.list) c.loop-decl.invariant)

pub returns : goal.returns
returns c =
    let past = subst (λ (ds : List Decl). length ds ≤ c.loop-decl.decl-index) c.as_slice-decl-items.ensures c.loop-decl-test.false in
    made_runs c.args.decls.now.list c.loop-decl.engine c.requires.good (with_whole (λ (ds : List Decl). IsMadeOf ds c.loop-decl.engine) c.args.decls.now.list c.loop-decl.decl-index past c.loop-decl.invariant)
