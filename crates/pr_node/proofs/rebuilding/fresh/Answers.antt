use Rattle.std.proofs.Common.{[], refl}
use Rattle.pr_node.proofs.Fresh.{fresh_tied}
use Rattle.pr_node.proofs.rebuilding.fresh.Goals as goal

pub returns-clause-tied : goal.returns-clause-tied
returns-clause-tied c = fresh_tied c.args.id [] _ _ refl c.requires.apart c.in_ok-new.ensures c.in_ok-new-2.ensures c.new-3.ensures c.new-4.ensures
