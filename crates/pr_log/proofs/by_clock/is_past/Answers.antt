use Rattle.pr_log.proofs.Ordered.{past_last}
use Rattle.pr_log.proofs.by_clock.is_past.Goals as goal

pub returns : goal.returns
returns c past = past_last c.args.clocks.now c.args.clock _ c.requires past
