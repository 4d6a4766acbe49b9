use Rattle.std.proofs.Common.{◌∙◌, ◌≡◌}
use Rattle.std.specs.Prelude.{true, false}
use Rattle.pr_node.proofs.Owned.{clock_worn}
use Rattle.pr_node.proofs.writing.next_stamp.Goals as goal

pub returns-in_err-clock-clause-none : goal.returns-in_err-clock-clause-none
returns-in_err-clock-clause-none c is j tied =
    clock_worn j _ _ (c.vector.ensures.value ∙ tied.log.vector) c.vector.ensures.range c.greatest.ensures.held (λ lt. let bad : false ≡ true = c.in_err-clock.ensures.some.1 lt in cc)
