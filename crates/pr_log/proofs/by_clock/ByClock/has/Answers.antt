use Rattle.std.proofs.Common.{◌∙◌}
use Rattle.std.specs.Prelude.{zip}
use Rattle.pr_log.proofs.Ordered.{has_place, some_first, some_second}
use Rattle.pr_log.proofs.by_clock.ByClock.has.Goals as goal

pub returns-then-is_some : goal.returns-then-is_some
returns-then-is_some c =
    rw (← c.self.view_is) (
    some_first (zip c.self.inside.clocks.items c.self.inside.writes.items) c.self.inside.late.entries c.args.clock c.is_some.result c.if-is_some.true
    (c.is_some.ensures ∙ has_place c.deref.result.now c.self.inside.clocks.items c.self.inside.writes.items c.args.clock c.place_of.result c.deref.ensures.value c.self.invariant.0 c.self.invariant.1 c.place_of.ensures.within c.place_of.ensures.found c.place_of.ensures.none))

pub returns-else-is_some : goal.returns-else-is_some
returns-else-is_some c =
    rw (← c.self.view_is) (
    some_second (zip c.self.inside.clocks.items c.self.inside.writes.items) c.self.inside.late.entries c.args.clock c.is_some.result c.contains_key.result c.if-is_some.false
    (c.is_some.ensures ∙ has_place c.deref.result.now c.self.inside.clocks.items c.self.inside.writes.items c.args.clock c.place_of.result c.deref.ensures.value c.self.invariant.0 c.self.invariant.1 c.place_of.ensures.within c.place_of.ensures.found c.place_of.ensures.none)
    c.contains_key.ensures)
