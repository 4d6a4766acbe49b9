use Rattle.std.proofs.Common.{refl}
use Rattle.pr_node.proofs.Bodies.{body_tied}
use Rattle.pr_node.proofs.taking.take_body.Goals as goal

pub returns-clause-taken : goal.returns-clause-taken
returns-clause-taken c n j time caller msg at is tied = body_tied n j _ _ time caller msg at _ _ _ is c.requires.grammar tied c.in_ok-hold.ensures refl refl refl
