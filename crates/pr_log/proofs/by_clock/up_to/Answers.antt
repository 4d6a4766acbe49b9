use Rattle.std.proofs.Common.{rules, of_calls, arith, ◌-◌, nat_le}
use Rattle.std.proofs.lemmas.Fn.{always_returns_same}
use Rattle.pr_log.proofs.Ordered.{above_part, rise_part, up_to_first, within_part}
use Rattle.pr_log.proofs.by_clock.up_to.Goals as goal

pub returns-clause-within : goal.returns-clause-within
returns-clause-within c k d lt =
    let point = c.partition_point.ensures.partitioned (λ kept. nat_le kept c.args.clock) (always_returns_same _ _ _ (λ a r f k. search (rules, of_calls))) (λ i j d le lt. up_to_first _ c.args.clock i j d (rise_part c.args.clocks.now c.before-start.result c.requires) le lt) in
    within_part c.args.clocks.now c.args.clock c.before-start.result c.partition_point.result k d c.before-start.ensures.within (λ from lt. point.0 (k - c.before-start.result) d (omega arith) (omega (arith, from, lt))) lt

pub returns-clause-above : goal.returns-clause-above
returns-clause-above c k d le lt =
    let point = c.partition_point.ensures.partitioned (λ kept. nat_le kept c.args.clock) (always_returns_same _ _ _ (λ a r f k. search (rules, of_calls))) (λ i j d le lt. up_to_first _ c.args.clock i j d (rise_part c.args.clocks.now c.before-start.result c.requires) le lt) in
    above_part c.args.clocks.now c.args.clock c.before-start.result c.partition_point.result k d (λ le lt. point.1 (k - c.before-start.result) d le lt) le lt
