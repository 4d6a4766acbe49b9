use Rattle.std.proofs.Common.{◌∙◌, ap}
use Rattle.pr_flow.specs.Calls.{Ending}
use Rattle.pr_inval.specs.Standing.{means}
use Rattle.pr_node.specs.Calls.{IsDownFor, IsTimeWorn}
use Rattle.pr_story.specs.Sessions.{HasGoneOn}
use Rattle.pr_crew.specs.Acting.{AtCell, nothing}
use Rattle.pr_crew.proofs.Through.{acts_so, down_makes}
use Rattle.pr_crew.proofs.cell_side.CellSideSide.down.Goals as goal

pub returns-clause-made : goal.returns-clause-made
returns-clause-made g c =
    let o = c.self.invariant.1 in
    down_makes o.0 o.1 o.2 (λ s. (means c.args.session.now).standing) nothing c.in-Some.pass c.down-pass.result.0 c.args.self.now (λ a. IsTimeWorn a c.args.session.now.time) (means c.args.session.now) (means c.down-pass.new.session) c.args.cause
    c.down-pass.result.1 c.in-Some.ensures.some.0 (c.down-pass.ensures.makes o.0 o.1 o.2 nothing o.3) c.down-pass.ensures.session

pub returns-clause-act : goal.returns-clause-act
returns-clause-act g c =
    acts_so c.args.self.now c.self.inside.cell.now (Ending c.args.cause (means c.args.session.now) (means c.down-pass.new.session))
    (λ done e. IsDownFor c.args.session.now.stream c.args.cause e × HasGoneOn (means c.args.session.now) (means c.down-pass.new.session) c.args.session.now.attached e)
    c.in-Some.pass c.down-pass.result.0 c.down-pass.result.1 (ap (λ (x : AtCell). x.cell) c.self.view_is ∙ c.ready.ensures.cell) c.in-Some.ensures.some.0 (λ plan h n of. c.down-pass.ensures.makes plan h n nothing of)
