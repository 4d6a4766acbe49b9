use Rattle.std.proofs.Common.{length}
use Rattle.pr_crew.proofs.Planned.{more_small, more_works}
use Rattle.pr_crew.proofs.planning.plan.Goals as goal

pub loop-owner-preserved : goal.loop-owner-preserved
loop-owner-preserved g c = record {
  works = λ d h keeps. more_works d.plan h (length (g.H.Held.state c.args.held.now).nodes) c.args.inside.now c.args.owners.now c.loop-owner.owner-index c.loop-owner.works.items c.push.new.self.items _ c.work_of.result
      c.loop-owner-test.true (c.loop-owner.invariant.works d h keeps) (c.work_of.ensures.work d h keeps) c.in_ok-push.ensures.items;
  small = more_small c.loop-owner.works.items c.push.new.self.items c.work_of.result c.loop-owner.invariant.small c.work_of.ensures.small c.in_ok-push.ensures.items;
}
