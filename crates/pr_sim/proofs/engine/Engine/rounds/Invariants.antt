use Rattle.std.specs.Prelude.{Bool, Ok}
use Rattle.pr_sim.specs.Commands.{attached_of}
use Rattle.pr_sim.specs.Settles.{ForEachInTime, MakesPart}
use Rattle.pr_sim.proofs.Resting.{RoundsLead}
use Rattle.pr_sim.proofs.Story.{left_of}
use Rattle.pr_sim.proofs.engine.Engine.rounds.Given as goal

-- rounds that follow from here follow from the start
abbrev pub invariant-loop : goal.invariant-loop
invariant-loop l = ForEachInTime l.initial.self (λ d attached h. (sent : Bool) × MakesPart (λ sent. RoundsLead (attached_of d attached)) d attached h l.self (Ok sent))

abbrev pub decreases-loop : goal.decreases-loop
decreases-loop l = left_of l.self
