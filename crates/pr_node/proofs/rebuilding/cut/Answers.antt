use Rattle.std.proofs.Common.{refl, ◌∙◌}
use Rattle.pr_node.proofs.Rebuilt.{cut_told}
use Rattle.pr_node.proofs.rebuilding.cut.Goals as goal

pub returns-clause-tied : goal.returns-clause-tied
returns-clause-tied c n j time caller at tied is =
    cut_told n j c.args.stores.now _ time caller _ at c.vector.ensures.range (c.vector.ensures.value ∙ c.cut.ensures.cut.vector) is tied c.cut.ensures.cut c.forget.ensures.forgotten refl refl
