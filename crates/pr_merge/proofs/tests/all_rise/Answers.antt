use Rattle.std.proofs.Common.{subst, arith, rules, ◌∙◌, take}
use Rattle.std.specs.Prelude.{All}
use Rattle.std.specs.List.Sorted.{IsStrictlyIncreasing}
use Rattle.std.proofs.lemmas.List.{take_all}
use Rattle.std.proofs.lemmas.List.Elements.{All-more}
use Rattle.pr_merge.proofs.tests.all_rise.Goals as goal

pub loop-part-preserved : goal.loop-part-preserved
loop-part-preserved c =
    All-more IsStrictlyIncreasing c.args.parts.now c.loop-part.part-index c.part-item.result (omega arith) c.loop-part.invariant
    (subst IsStrictlyIncreasing (c.as_slice.ensures ∙ c.part-item.is) (c.rises.ensures (search rules)))

pub returns : goal.returns
returns c yes_it = subst (All IsStrictlyIncreasing) (take_all c.loop-part.part-index c.args.parts.now (omega arith)) c.loop-part.invariant
