use Rattle.pr_story.specs.Commands.{ToCheckpoint}
use Rattle.pr_sim.specs.Commands.{GivesIt}
use Rattle.pr_sim.proofs.Faults.{not_made, this_cause}
use Rattle.pr_sim.proofs.OfStreams.{checkpoint_gives}
use Rattle.pr_sim.proofs.engine.Engine.checkpoint.Goals as goal

pub returns-in_err-snapshot : goal.returns-in_err-snapshot
returns-in_err-snapshot c d attached h k =
    let was = c.in_err-snapshot.ensures d attached h k in
    not_made d attached h (GivesIt (ToCheckpoint c.args.stream)) c.snapshot.new.self _ c.from_residual.result c.from_residual.ensures.1 (λ fault is. this_cause h c.in_err-snapshot.field-0.0 fault was.1 is) was.0

pub returns : goal.returns
returns c d attached h k =
    let made = c.in_ok-snapshot.ensures d attached h k in
    (made.0, made.1, checkpoint_gives c.args.stream made.0.node made.0.entry made.2)
