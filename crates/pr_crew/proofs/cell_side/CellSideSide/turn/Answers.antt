use Rattle.std.proofs.Common.{◌∙◌, ap}
use Rattle.std.specs.Prelude.{true}
use Rattle.pr_flow.specs.Calls.{Turning}
use Rattle.pr_inval.specs.Standing.{means}
use Rattle.pr_node.specs.Calls.{IsStep, IsTimeWorn}
use Rattle.pr_story.specs.Sessions.{HasGoneOn}
use Rattle.pr_crew.specs.Acting.{AtCell, nothing}
use Rattle.pr_crew.proofs.Through.{acts_so, turn_makes}
use Rattle.pr_crew.proofs.cell_side.CellSideSide.turn.Goals as goal

pub returns-clause-made : goal.returns-clause-made
returns-clause-made g c =
    let o = c.self.invariant.1 in
    turn_makes o.0 o.1 o.2 (λ s. (means c.args.session.now).standing) nothing c.in-Some.pass c.turn-pass.result.0 c.args.self.now (λ a. IsTimeWorn a c.args.session.now.time) (means c.args.session.now) (means c.turn-pass.new.session) c.turn-pass.result.1
    c.in-Some.ensures.some.0 c.requires (c.turn-pass.ensures.makes o.0 o.1 o.2 nothing o.3) c.turn-pass.ensures.grammar c.turn-pass.ensures.session

pub returns-clause-act : goal.returns-clause-act
returns-clause-act g c =
    acts_so c.args.self.now c.self.inside.cell.now (Turning (means c.args.session.now) (means c.turn-pass.new.session)) (λ step e. IsStep c.args.session.now.stream step e × HasGoneOn (means c.args.session.now) (means c.turn-pass.new.session) true e)
    c.in-Some.pass c.turn-pass.result.0 c.turn-pass.result.1 (ap (λ (x : AtCell). x.cell) c.self.view_is ∙ c.ready.ensures.cell) c.in-Some.ensures.some.0 (λ plan h n of. c.turn-pass.ensures.makes plan h n nothing of)
