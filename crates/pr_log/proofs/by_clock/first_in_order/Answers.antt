use Rattle.std.proofs.Common.{Some, get_or, subst, sym}
use Rattle.pr_log.specs.Entries.{IsFirstEntry}
use Rattle.pr_log.proofs.Ordered.{first_in_order, none_in_order}
use Rattle.pr_log.proofs.Places.{less_by}
use Rattle.std.specs.Prelude.{zip}
use Rattle.pr_log.proofs.by_clock.first_in_order.Goals as goal

pub returns-then-at-clocks : goal.returns-then-at-clocks
returns-then-at-clocks c = none_in_order c.args.clocks.now c.args.writes.now c.args.clock c.up_to_near-at.result c.if-at-clocks.true c.up_to_near-at.ensures.within

pub returns : goal.returns
returns c =
    subst (λ w. IsFirstEntry (zip c.args.clocks.now c.args.writes.now) c.args.clock (Some (get_or c.args.clocks.now c.up_to_near-at.result 0, w))) (sym c.index-writes-at.is)
    (first_in_order c.args.clocks.now c.args.writes.now c.args.clock c.up_to_near-at.result 0 c.index-writes-at.result c.requires.order c.requires.pairs (less_by _ _ c.up_to_near-at.ensures.most c.if-at-clocks.false) c.up_to_near-at.ensures.within c.up_to_near-at.ensures.above)
