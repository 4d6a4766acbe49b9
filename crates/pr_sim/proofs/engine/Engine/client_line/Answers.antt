use Rattle.std.proofs.Common.{sym, ◌∙◌}
use Rattle.pr_sim.proofs.JobsInOrder.{line_ends}
use Rattle.pr_sim.proofs.engine.Engine.client_line.Goals as goal

pub returns-then-is_owned_by : goal.returns-then-is_owned_by
returns-then-is_owned_by c d attached h k =
    line_ends d attached h c.run.new.self c.args.client c.args.command.now c.run.result (sym c.is_owned_by.ensures ∙ c.if-is_owned_by.true) (c.run.ensures d attached h k)
