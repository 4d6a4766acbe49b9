use Rattle.std.proofs.Common.{refl}
use Rattle.pr_node.proofs.Forgetting.{dropped_tied}
use Rattle.pr_node.proofs.rebuilding.drop_body.Goals as goal

pub returns-clause-tied : goal.returns-clause-tied
returns-clause-tied c n j time caller tied = dropped_tied n j c.args.stores.now _ time caller _ tied c.drop_all.ensures.dropped refl refl refl
