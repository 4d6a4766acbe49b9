use Rattle.std.specs.Prelude.{Ok, filter}
use Rattle.pr_story.specs.Scripts.{AreRound}
use Rattle.pr_sim.specs.Running.{below}
use Rattle.pr_sim.specs.Settles.{ForEachInTime, MakesPart}
use Rattle.pr_sim.proofs.engine.Engine.round.Given as goal

-- the streams before this place came to rest
abbrev pub invariant-loop-at : goal.invariant-loop-at
invariant-loop-at l = ForEachInTime l.initial.self (λ d attached h. MakesPart (λ sent. AreRound (filter attached (below l.at))) d attached h l.self (Ok l.sent))
