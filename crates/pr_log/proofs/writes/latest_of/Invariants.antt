use Rattle.std.proofs.Common.{◌-◌}
use Rattle.pr_log.proofs.LastClocks.{AreLatestUpTo}
use Rattle.pr_log.proofs.writes.latest_of.Given as goal

abbrev pub invariant-loop-next : goal.invariant-loop-next
invariant-loop-next l = AreLatestUpTo l.clock l.writes l.latest

abbrev pub decreases-loop-next : goal.decreases-loop-next
decreases-loop-next l = 18446744073709551615 - l.clock
