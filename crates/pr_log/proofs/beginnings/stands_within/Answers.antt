use Rattle.std.proofs.Common.{◌≤◌, arith}
use Rattle.pr_log.specs.Sets.{begins_at}
use Rattle.pr_log.proofs.Turns.{last_within, lit_already}
use Rattle.pr_log.proofs.beginnings.stands_within.Goals as goal

pub returns-then-start-lo : goal.returns-then-start-lo
returns-then-start-lo c = λ within o k name lo hi.
    let start : c.in-Some.start ≤ k = omega (arith, c.if-start-lo.true, lo) in
    lit_already _ c.in-Some.set.now c.args.target.now o (last_within (begins_at c.args.sets.now.entries) c.in-Some.start k c.args.hi c.in-Some.set.now c.in-Some.ensures.entry start hi c.in-Some.ensures.last) (c.within.ensures.0 within o name)
