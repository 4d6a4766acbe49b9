use Rattle.std.specs.Prelude.{Ok}
use Rattle.pr_sim.specs.Settles.{ForEachInTime, LeadsToRest, MakesPart}
use Rattle.pr_sim.proofs.Story.{left_of}
use Rattle.pr_sim.proofs.engine.Engine.rest.Given as goal

-- what settles the stream from here settles it from the start
abbrev pub invariant-loop-sent : goal.invariant-loop-sent
invariant-loop-sent l = ForEachInTime l.initial.self (λ d attached h. MakesPart (λ sent. LeadsToRest l.stream) d attached h l.self (Ok l.sent))

abbrev pub decreases-loop-sent : goal.decreases-loop-sent
decreases-loop-sent l = left_of l.self
