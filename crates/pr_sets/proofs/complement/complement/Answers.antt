use Rattle.std.proofs.Common.{refl, arith, subst, sym, List}
use Rattle.pr_names.specs.Span.{Span}
use Rattle.pr_sets.specs.Spans.{IsComplement}
use Rattle.pr_sets.proofs.Complements.{gaps_are}
use Rattle.pr_sets.proofs.Turns.{gaps_turn, gaps_end}
use Rattle.pr_sets.proofs.complement.complement.Goals as goal

pub loop-part-init : goal.loop-part-init
loop-part-init c = rw (c.new-gaps.ensures, c.least.ensures) refl

pub loop-part-preserved : goal.loop-part-preserved
loop-part-preserved c =
    gaps_turn c.args.parts.now c.loop-part.part-index c.part-item.result c.loop-part.from c.lo.result c.hi-from.result c.loop-part.gaps
    c.push_some.new.list _ c.gap.result (omega arith) c.part-item.is c.lo.ensures.value c.hi-from.ensures.value c.gap.ensures
    c.in_ok-push_some.ensures c.loop-part.invariant

pub returns : goal.returns
returns c =
    let P : List Span → Type 0 = λ gaps. IsComplement c.args.parts.now gaps in
    subst P (sym (gaps_end c.args.parts.now c.loop-part.part-index c.loop-part.from c.loop-part.gaps c.push_some-2.new.list _ c.gap-2.result (omega arith)
    c.gap-2.ensures c.in_ok-push_some-2.ensures c.loop-part.invariant))
    (gaps_are c.args.parts.now c.requires)
