use Rattle.std.proofs.Common.{refl, sym, ◌∙◌, ap, subst, arith}
use Rattle.std.specs.Prelude.{Bool, IsTrue, ◌&&◌}
use Rattle.pr_sim.proofs.GoesDown.{after_is, can, goes_is}
use Rattle.pr_sim.specs.Flowing.{may_go_down}
use Rattle.pr_sim.proofs.OfStreams.{ends_of}
use Rattle.pr_sim.proofs.engine.Engine.can_go_down.Goals as goal

pub node_at-node-requires : goal.node_at-node-requires
node_at-node-requires c =
    let k = c.requires.kept.3.stands in
    let r = ends_of c.requires.kept.0.plan _ _ c.args.stream c.route.result k.routes (let lt = c.requires.stream in let l = k.many in omega arith) c.route.ensures in
    let x = k.nodes.each c.route.result.destination r.3 in (x.0, x.1)

pub returns-then-attached-clause-is : goal.returns-then-attached-clause-is
returns-then-attached-clause-is c d attached h k =
    let after = after_is d attached h c.args.self.now c.args.stream c.route.result c.node_at-node.result.now c.journal.result.now.items c.is_after_gap-after.result k c.requires.stream c.route.ensures c.node_at-node.ensures
    c.journal.ensures c.is_after_gap-after.ensures in
    ap (λ (b : Bool). b && c.may_go_down.result) (sym c.if-attached.true)
    ∙ goes_is d attached h c.args.stream c.args.cause c.is_attached-attached.result c.is_after_gap-after.result c.may_go_down.result (c.is_attached-attached.ensures.is d attached h k) after c.may_go_down.ensures

pub returns-then-attached-clause-can : goal.returns-then-attached-clause-can
returns-then-attached-clause-can c t d attached h k =
    can d attached h c.args.self.now c.args.stream c.args.cause k c.requires.stream (c.is_attached-attached.ensures.on c.if-attached.true) (subst IsTrue (returns-then-attached-clause-is c d attached h k) t)

pub returns-else-attached-clause-is : goal.returns-else-attached-clause-is
returns-else-attached-clause-is c d attached h k =
    let after = after_is d attached h c.args.self.now c.args.stream c.route.result c.node_at-node.result.now c.journal.result.now.items c.is_after_gap-after.result k c.requires.stream c.route.ensures c.node_at-node.ensures
    c.journal.ensures c.is_after_gap-after.ensures in
    let is = c.is_attached-attached.ensures.is d attached h k in
    c.if-attached.false ∙ ap (λ (b : Bool). b && may_go_down c.args.cause c.is_after_gap-after.result) (sym c.if-attached.false)
    ∙ goes_is d attached h c.args.stream c.args.cause c.is_attached-attached.result c.is_after_gap-after.result (may_go_down c.args.cause c.is_after_gap-after.result) is after refl
