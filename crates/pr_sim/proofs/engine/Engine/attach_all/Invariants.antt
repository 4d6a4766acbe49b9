use Rattle.std.specs.Prelude.{Ok, filter}
use Rattle.pr_sim.specs.Commands.{ForEachRun}
use Rattle.pr_sim.specs.Running.{below}
use Rattle.pr_sim.specs.Settles.{AttachesAnew}
use Rattle.pr_sim.proofs.engine.Engine.attach_all.Given as goal

-- the streams before this place were attached anew
abbrev pub invariant-loop-at : goal.invariant-loop-at
invariant-loop-at l = ForEachRun l.initial.self (λ d attached h. AttachesAnew (filter attached (below l.at)) d attached h l.self (Ok tt))
