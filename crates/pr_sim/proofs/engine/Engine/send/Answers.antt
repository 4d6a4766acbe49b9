use Rattle.pr_story.specs.Commands.{ToSend}
use Rattle.pr_sim.specs.Commands.{GivesIt}
use Rattle.pr_sim.proofs.Faults.{not_made, this_cause}
use Rattle.pr_sim.proofs.OfStreams.{turn_gives}
use Rattle.pr_sim.proofs.engine.Engine.send.Goals as goal

pub returns-in_err-turn : goal.returns-in_err-turn
returns-in_err-turn c d attached h k =
    let was = c.in_err-turn.ensures d attached h k in
    not_made d attached h (GivesIt (ToSend c.args.stream)) c.turn.new.self _ c.from_residual.result c.from_residual.ensures.1 (λ fault is. this_cause h c.in_err-turn.field-0.0 fault was.1 is) was.0

pub returns : goal.returns
returns c d attached h k =
    let made = c.in_ok-turn.ensures d attached h k in
    (made.0, made.1, turn_gives c.args.stream made.0.node c.in_ok-turn.field-0 made.0.entry made.2)
