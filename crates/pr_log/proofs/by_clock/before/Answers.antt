use Rattle.std.proofs.Common.{◌-◌, arith, length}
use Rattle.pr_log.proofs.Ordered.{up_to_before}
use Rattle.pr_log.proofs.by_clock.before.Goals as goal

pub returns-then-clocks-at-clause-within : goal.returns-then-clocks-at-clause-within
returns-then-clocks-at-clause-within c k d lt = up_to_before c.args.clocks.now c.args.clock (length c.args.clocks.now - c.loop-back.back) k _ d c.requires (omega (arith, c.loop-back-test.true, c.loop-back.invariant)) c.if-clocks-at.true lt
