use Rattle.std.proofs.Common.{◌++◌, Result, subst}
use Rattle.pr_inval.specs.declared.node_fault.NodeFault.{NodeFault}
use Rattle.pr_story.specs.Scripts.{Settle}
use Rattle.pr_sim.specs.Commands.{Ends}
use Rattle.pr_sim.proofs.Settled.{attached_in_time, on_ok, settle_ends, settle_fails, settle_rests}
use Rattle.pr_sim.proofs.Settles.{fails}
use Rattle.pr_sim.proofs.engine.Engine.settle.Goals as goal

pub returns-in_err-attach_all-clause-ends : goal.returns-in_err-attach_all-clause-ends
returns-in_err-attach_all-clause-ends c d attached h k =
    fails (λ (r : Result (Unit {0}) NodeFault). Ends Settle d attached h c.attach_all.new.self r) _ c.from_residual.result c.in_err-attach_all.field-0.0 c.from_residual.ensures.1 (λ fault is. is)
    (settle_fails d attached h c.attach_all.new.self c.in_err-attach_all.field-0.0 (c.in_err-attach_all.ensures d attached h k))

pub rounds-requires : goal.rounds-requires
rounds-requires c =
    let r = c.requires.kept in
    let now = c.in_ok-attach_all.ensures r.0 r.1 r.2 r.3 in
    record { settling = (r.0, r.1, now.0 ++ r.2, now.1, attached_in_time r.0 r.1 r.2 now.0 now.1.stands.valid now.2) }

pub returns-clause-ends : goal.returns-clause-ends
returns-clause-ends c d attached h k =
    let now = c.in_ok-attach_all.ensures d attached h k in
    settle_ends d attached h c.rounds.new.self now.0 now.2 c.rounds.result
    (c.rounds.ensures d attached (now.0 ++ h) now.1 (attached_in_time d attached h now.0 now.1.stands.valid now.2))

pub returns-clause-rest : goal.returns-clause-rest
returns-clause-rest c =
    on_ok c.rounds.result _
    (λ is d attached h k.
    let now = c.in_ok-attach_all.ensures d attached h k in
    settle_rests d attached h c.rounds.new.self
    (subst (λ (r : Result (Unit {0}) NodeFault). Ends Settle d attached h c.rounds.new.self r) is
    (settle_ends d attached h c.rounds.new.self now.0 now.2 c.rounds.result
    (c.rounds.ensures d attached (now.0 ++ h) now.1 (attached_in_time d attached h now.0 now.1.stands.valid now.2)))))
