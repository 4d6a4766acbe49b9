use Rattle.std.proofs.Common.{arith, ◌<◌, length, subst}
use Rattle.pr_inval.proofs.Aims.{outside_target}
use Rattle.pr_inval.proofs.target.omitted_or_outside.Goals as goal

pub returns-then-parts-gt-TARGET_INTERVALS : goal.returns-then-parts-gt-TARGET_INTERVALS
returns-then-parts-gt-TARGET_INTERVALS c =
    outside_target c.args.omitted.now c.args.sub.now c.complement.result c.parts.ensures.set
    (subst (λ ss. 16 < length ss) c.parts.ensures.value (omega (arith, c.if-parts-gt-TARGET_INTERVALS.true))) c.complement.ensures
