use Rattle.std.proofs.Common.{ℕ, List, ◌∙◌, subst, sym}
use Rattle.pr_log.specs.Latest.{IsAbove}
use Rattle.pr_log.proofs.Ranges.{above_in, forward}
use Rattle.pr_log.proofs.latest.Latest.may_have_in.Goals as goal

pub range-last-items-requires : goal.range-last-items-requires
range-last-items-requires c = forward c.args.part.now c.lo.result c.end_of.result c.lo.ensures.value c.end_of.ensures.value c.end_of.ensures.span

pub loop-last-init : goal.loop-last-init
loop-last-init c o held above =
    above_in c.args.part.now c.lo.result c.end_of.result c.self.inside.clocks.entries _ c.args.clock o c.lo.ensures.value c.end_of.ensures.value
    (c.into_iter-last-iterator.ensures.into_iter_gives ∙ c.range-last-items.ensures.between tt) held
    (subst (λ (es : List (List ℕ × ℕ)). IsAbove es c.args.clock o) (sym c.self.view_is) above)
