use Rattle.pr_log.proofs.LastClocks.{latest_next}
use Rattle.pr_log.proofs.writes.latest_of.Goals as goal

pub loop-next-preserved : goal.loop-next-preserved
loop-next-preserved c = latest_next c.args.writes.now c.loop-next.latest c.put.new.self c.loop-next.clock c.in-Some.next c.in-Some.write.now c.loop-next.invariant c.in-Some.ensures.1 c.in-Some.ensures.2 c.in_ok-put.ensures.ok
