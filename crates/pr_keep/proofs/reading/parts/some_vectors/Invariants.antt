use Rattle.std.proofs.Common.{◌≡◌, ◌-◌, []}
use Rattle.pr_wire.specs.Reading.{items_at, vector_at}
use Rattle.pr_keep.specs.Reading.{in_any_order}
use Rattle.pr_keep.proofs.reading.parts.some_vectors.Given as goal

abbrev pub invariant-loop : goal.invariant-loop
invariant-loop l =
    items_at vector_at in_any_order (l.count - l.counter) l.vectors l.cursor.rest.now
    ≡ items_at vector_at in_any_order l.count [] l.fn.cursor.rest.now
