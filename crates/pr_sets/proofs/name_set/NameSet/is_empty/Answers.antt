use Rattle.std.proofs.Common.{ap, ◌∙◌, length}
use Rattle.std.specs.Prelude.{◌==◌}
use Rattle.pr_sets.proofs.Same.{empty_names}
use Rattle.pr_sets.proofs.name_set.NameSet.is_empty.Goals as goal

pub returns-clause-names : goal.returns-clause-names
returns-clause-names c =
    empty_names c.args.self.now c.is_empty.result c.parts.ensures.set (c.is_empty.ensures ∙ ap (λ ss. length ss == 0) c.parts.ensures.value)
