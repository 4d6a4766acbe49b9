use Rattle.std.proofs.Common.{refl, reverse, subst}
use Rattle.std.specs.Prelude.{Option}
use Rattle.pr_inval.specs.declared.kind.Kind.{Kind}
use Rattle.pr_inval.specs.Standing.{means}
use Rattle.pr_node.specs.Sending.{IsNextBodyOf}
use Rattle.pr_node.proofs.turning.send_body.Goals as goal

pub returns-in-None-clause-next : goal.returns-in-None-clause-next
returns-in-None-clause-next c n f = (refl, subst (λ (k : Option Kind). IsNextBodyOf (reverse c.args.journal.now.items) (means c.args.session.now).standing k) c.in-None.is (c.in_ok-kind.ensures.next n f))
