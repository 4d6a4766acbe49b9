use Rattle.std.proofs.Common.{◌++◌, Result, subst}
use Rattle.std.specs.Prelude.{Bool, Ok, false}
use Rattle.pr_inval.specs.declared.node_fault.NodeFault.{NodeFault}
use Rattle.pr_story.specs.Scripts.{AreRound}
use Rattle.pr_sim.specs.Commands.{attached_of}
use Rattle.pr_sim.specs.Settles.{HasRounds, MakesPart}
use Rattle.pr_sim.proofs.Resting.{no_rounds, rounds_last, rounds_more, rounds_stop}
use Rattle.pr_sim.proofs.Settled.{rounds_ended, rounds_failed}
use Rattle.pr_sim.proofs.Settles.{fails, still_in_time}
use Rattle.pr_sim.proofs.Story.{less_left}
use Rattle.pr_sim.proofs.engine.Engine.rounds.Goals as goal

pub loop-init : goal.loop-init
loop-init c d attached h k in_time = (false, no_rounds d attached h c.args.self.now (attached_of d attached) k)

pub round-requires : goal.round-requires
round-requires c =
    let r = c.requires.settling in
    let now = c.loop.invariant r.0 r.1 r.2 r.3 r.4 in
    record { settling = (r.0, r.1, now.1.0 ++ r.2, now.1.1, still_in_time r.0 r.1 r.2 now.1.0 now.0 now.1.3 r.4) }

pub returns-in_err-round : goal.returns-in_err-round
returns-in_err-round c d attached h k in_time =
    let now = c.loop.invariant d attached h k in_time in
    let next = c.in_err-round.ensures d attached (now.1.0 ++ h) now.1.1 (still_in_time d attached h now.1.0 now.0 now.1.3 in_time) in
    fails (λ (r : Result (Unit {0}) NodeFault). HasRounds d attached h c.round.new.self r) _ c.from_residual.result c.in_err-round.field-0.0 c.from_residual.ensures.1 (λ fault is. is)
    (rounds_failed d attached h c.round.new.self c.in_err-round.field-0.0 (rounds_stop d attached h c.round.new.self (attached_of d attached) now.1.0 now.0 c.in_err-round.field-0.0 now.1.2 next))

pub returns : goal.returns
returns c d attached h k in_time =
    let now = c.loop.invariant d attached h k in_time in
    let next = c.in_ok-round.ensures d attached (now.1.0 ++ h) now.1.1 (still_in_time d attached h now.1.0 now.0 now.1.3 in_time) in
    let last = rounds_last d attached h c.round.new.self (attached_of d attached) now.1.0 now.0 now.1.2 now.1.3 c.in_ok-round.field-0 c.if-branch.false next in
    rounds_ended d attached h c.round.new.self last.0 last.1

pub loop-smaller : goal.loop-smaller
loop-smaller c =
    let r = c.requires.settling in
    let now = c.loop.invariant r.0 r.1 r.2 r.3 r.4 in
    let next = c.in_ok-round.ensures r.0 r.1 (now.1.0 ++ r.2) now.1.1 (still_in_time r.0 r.1 r.2 now.1.0 now.0 now.1.3 r.4) in
    less_left r.0 r.1 (now.1.0 ++ r.2) c.loop.self c.round.new.self (λ sent. AreRound (attached_of r.0 r.1)) now.1.1
    (subst (λ (b : Bool). MakesPart (λ sent. AreRound (attached_of r.0 r.1)) r.0 r.1 (now.1.0 ++ r.2) c.round.new.self (Ok b)) c.if-branch.true next)

pub loop-preserved : goal.loop-preserved
loop-preserved c d attached h k in_time =
    let now = c.loop.invariant d attached h k in_time in
    let next = c.in_ok-round.ensures d attached (now.1.0 ++ h) now.1.1 (still_in_time d attached h now.1.0 now.0 now.1.3 in_time) in
    rounds_more d attached h c.round.new.self (attached_of d attached) now.1.0 now.0 now.1.2 now.1.3 c.in_ok-round.field-0 c.if-branch.true next
