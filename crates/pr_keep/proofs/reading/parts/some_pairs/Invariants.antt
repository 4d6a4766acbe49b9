use Rattle.std.proofs.Common.{◌≡◌, ◌-◌, []}
use Rattle.pr_wire.specs.Reading.{items_at}
use Rattle.pr_keep.specs.Reading.{in_any_order, pair_at}
use Rattle.pr_keep.proofs.reading.parts.some_pairs.Given as goal

abbrev pub invariant-loop : goal.invariant-loop
invariant-loop l =
    items_at pair_at in_any_order (l.count - l.counter) l.pairs l.cursor.rest.now
    ≡ items_at pair_at in_any_order l.count [] l.fn.cursor.rest.now
