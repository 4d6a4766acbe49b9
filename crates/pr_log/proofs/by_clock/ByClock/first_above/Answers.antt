use Rattle.pr_log.specs.Entries.{IsFirstEntry, entry_of}
use Rattle.pr_log.proofs.Ordered.{first_both, first_late}
use Rattle.std.specs.Prelude.{zip}
use Rattle.std.proofs.Common.{subst}
use Rattle.pr_log.proofs.by_clock.ByClock.first_above.Goals as goal

pub returns : goal.returns
returns c =
    rw (← c.self.view_is) (
    first_both (zip c.self.inside.clocks.items c.self.inside.writes.items) c.self.inside.late.entries c.args.clock (entry_of c.first_in_order.result) (entry_of c.first_late.result) (entry_of c.lesser.result)
    (subst (λ l. IsFirstEntry l c.args.clock (entry_of c.first_in_order.result)) (λ i. zip (c.deref.ensures.value i) (c.deref-2.ensures.value i)) c.first_in_order.ensures)
    (first_late c.self.inside.late.entries c.args.clock c.first_late.result c.first_late.ensures.entry c.first_late.ensures.above c.first_late.ensures.first c.first_late.ensures.none)
    c.lesser.ensures)
