use Rattle.std.proofs.Common.{◌∙◌, ap}
use Rattle.pr_flow.specs.Calls.{Accepting}
use Rattle.pr_node.specs.Calls.{IsTaken, IsTimeWorn}
use Rattle.pr_crew.specs.Acting.{AtCell, nothing, nowhere}
use Rattle.pr_crew.proofs.Through.{accept_makes, acts_so}
use Rattle.pr_crew.proofs.cell_side.CellSideSide.accept.Goals as goal

pub returns-clause-made : goal.returns-clause-made
returns-clause-made g c =
    let o = c.self.invariant.1 in
    accept_makes o.0 o.1 o.2 nowhere nothing c.in-Some.pass c.accept-pass.result.0 c.args.self.now (λ a. IsTimeWorn a c.args.msg.time) c.args.msg c.accept-pass.result.1 c.in-Some.ensures.some.0
    (c.accept-pass.ensures.makes o.0 o.1 o.2 nowhere nothing o.3)

pub returns-clause-act : goal.returns-clause-act
returns-clause-act g c =
    acts_so c.args.self.now c.self.inside.cell.now (Accepting c.args.msg) (IsTaken c.args.msg) c.in-Some.pass c.accept-pass.result.0 c.accept-pass.result.1
    (ap (λ (x : AtCell). x.cell) c.self.view_is ∙ c.ready.ensures.cell) c.in-Some.ensures.some.0 (λ plan h n of. c.accept-pass.ensures.makes plan h n nowhere nothing of)
