use Rattle.std.proofs.Common.{refl}
use Rattle.pr_node.proofs.Refining.{imprecise_tied}
use Rattle.pr_node.proofs.taking.take_imprecise.Goals as goal

pub returns-clause-taken : goal.returns-clause-taken
returns-clause-taken c =
    λ n j time caller msg at is tied. imprecise_tied n j _ _ time caller msg at _ _ _ is c.requires.grammar tied c.in_ok-refine.ensures.ok c.in_ok-cover.ensures.ok refl refl
