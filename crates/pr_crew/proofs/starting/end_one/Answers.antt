use Rattle.std.proofs.Common.{sym, subst}
use Rattle.pr_crew.specs.Starting.{CanEndOne, EndsOne}
use Rattle.pr_crew.proofs.Starts.{still_can_join}
use Rattle.pr_crew.proofs.starting.end_one.Goals as goal

pub join-requires-in-Flow-2 : goal.join-requires-in-Flow-2
join-requires-in-Flow-2 g c =
    still_can_join (g.H.Held.state c.args.held.now) c.args.sites.now c.join-in-Flow.new.self c.in-Flow.field-0
    (subst (λ x. CanEndOne (g.H.Held.state c.args.held.now) c.args.sites.now x) c.in-Flow.is c.requires.can) c.join-in-Flow.ensures.joins

pub returns-in-Flow-clause-ends : goal.returns-in-Flow-clause-ends
returns-in-Flow-clause-ends g c =
    subst (λ x. EndsOne (g.H.Held.state c.args.held.now) (g.H.Held.state c.give_session.new.held) c.args.sites.now c.join-in-Flow-2.new.self x) (sym c.in-Flow.is)
    ((c.join-in-Flow.new.self, c.join-in-Flow.ensures.joins, c.join-in-Flow-2.ensures.joins), c.give_session.ensures.state)
