use Rattle.std.proofs.Common.{arith}
use Rattle.pr_inval.proofs.Aims.{coarse_target}
use Rattle.pr_inval.proofs.target.target_for.Goals as goal

pub returns : goal.returns
returns c =
    coarse_target c.args.omitted.now c.args.dark.now c.args.sub.now c.in_ok-fine.fine c.outside_or_dark.result
    c.in_ok-fine.ensures (omega (arith, c.count.ensures, c.if-count-le-TARGET_INTERVALS.false)) c.outside_or_dark.ensures
