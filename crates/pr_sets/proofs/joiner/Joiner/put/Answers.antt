use Rattle.std.proofs.Common.{ap, sym, ◌∙◌}
use Rattle.pr_sets.specs.Spans.{is_behind}
use Rattle.pr_sets.proofs.Behind.{not_behind}
use Rattle.pr_sets.proofs.joiner.Joiner.put.Goals as goal

pub grow-requires : goal.grow-requires
grow-requires c =
    not_behind c.deref_mut.result.now c.args.part.now
    (ap (λ ts. is_behind ts c.args.part.now) (c.deref_mut.ensures.value ∙ sym c.deref.ensures.value) ∙ sym c.is_behind.ensures ∙ c.if-is_behind.false)
