use Rattle.std.proofs.Common.{arith, ◌∙◌}
use Rattle.pr_log.specs.Sets.{begins_at}
use Rattle.pr_log.proofs.Clocks.{taken_out}
use Rattle.pr_log.proofs.beginnings.drop_below.Goals as goal

pub loop-first-preserved-in-Some : goal.loop-first-preserved-in-Some
loop-first-preserved-in-Some c k le =
    taken_out c.in-Some.first k (begins_at c.loop-first.sets.entries k) _ (c.remove.ensures.updates.0 k) (λ e. omega (arith, e, c.in-Some.ensures.0, le))
    ∙ c.loop-first.invariant k le
