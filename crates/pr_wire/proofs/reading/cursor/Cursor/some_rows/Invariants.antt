use Rattle.std.proofs.Common.{◌≡◌, ◌-◌, []}
use Rattle.pr_wire.specs.Reading.{items_at, last_before, row_at, row_before}
use Rattle.pr_wire.proofs.reading.cursor.Cursor.some_rows.Given as goal

abbrev pub invariant-loop : goal.invariant-loop
invariant-loop l =
    items_at (row_at l.bounds.format l.bounds.floor.now l.bounds.to.now l.bounds.target.now) (last_before row_before) (l.count - l.counter) l.rows l.self.rest.now
    ≡ items_at (row_at l.bounds.format l.bounds.floor.now l.bounds.to.now l.bounds.target.now) (last_before row_before) l.count [] l.fn.self.rest.now
