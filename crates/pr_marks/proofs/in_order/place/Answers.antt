use Rattle.std.proofs.Common.{rules, of_calls, arith, ◌-◌}
use Rattle.std.proofs.lemmas.Fn.{always_returns_same}
use Rattle.pr_stamps.specs.Point.{is_before}
use Rattle.pr_stamps.specs.declared.mark.Mark.{Mark}
use Rattle.pr_marks.proofs.Placed.{after_part, before_first, before_part, rises_part}
use Rattle.pr_marks.proofs.in_order.place.Goals as goal

pub returns-clause-before : goal.returns-clause-before
returns-clause-before c k d lt =
    let point = c.partition_point.ensures.partitioned (λ (m : Mark). is_before m.stamp c.args.stamp.now) (always_returns_same _ _ _ (λ a r f k. search (rules, of_calls))) (λ i j d le lt. before_first _ c.args.stamp.now i j d (rises_part c.args.marks.now c.start-start.result c.requires) le lt) in
    before_part c.args.marks.now c.args.stamp.now c.start-start.result c.partition_point.result k d c.start-start.ensures.before (λ from lt. point.0 (k - c.start-start.result) d (omega arith) (omega (arith, from, lt))) lt

pub returns-clause-after : goal.returns-clause-after
returns-clause-after c k d le lt =
    let point = c.partition_point.ensures.partitioned (λ (m : Mark). is_before m.stamp c.args.stamp.now) (always_returns_same _ _ _ (λ a r f k. search (rules, of_calls))) (λ i j d le lt. before_first _ c.args.stamp.now i j d (rises_part c.args.marks.now c.start-start.result c.requires) le lt) in
    after_part c.args.marks.now c.args.stamp.now c.start-start.result c.partition_point.result k d (λ le lt. point.1 (k - c.start-start.result) d le lt) le lt
