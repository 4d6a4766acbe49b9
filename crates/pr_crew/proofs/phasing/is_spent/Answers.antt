use Rattle.std.proofs.Common.{sym, ◌∙◌}
use Rattle.pr_crew.proofs.Here.{given_back, not_here}
use Rattle.pr_crew.proofs.phasing.is_spent.Goals as goal

pub unreachable-requires : goal.unreachable-requires
unreachable-requires g c = not_here (g.H.Held.state c.args.held.now).nodes c.args.node c.requires.1 c.requires.0 (sym c.take_node.ensures.was ∙ c.in_default.is)

pub returns-clause-state : goal.returns-clause-state
returns-clause-state g c =
    given_back (g.H.Held.state c.args.held.now) (g.H.Held.state c.take_node.new.self) (g.H.Held.state c.give_node.new.self) c.args.node c.in-Some.value (sym c.take_node.ensures.was ∙ c.in-Some.is) c.take_node.ensures.state c.give_node.ensures.state
