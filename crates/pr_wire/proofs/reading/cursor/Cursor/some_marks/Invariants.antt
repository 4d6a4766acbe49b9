use Rattle.std.proofs.Common.{◌≡◌, ◌-◌, []}
use Rattle.pr_wire.specs.Reading.{items_at, known_mark_at, last_before, mark_before}
use Rattle.pr_wire.proofs.reading.cursor.Cursor.some_marks.Given as goal

abbrev pub invariant-loop : goal.invariant-loop
invariant-loop l =
    items_at (known_mark_at l.bounds.floor.now l.bounds.to.now l.newest) (last_before mark_before) (l.count - l.counter) l.marks l.self.rest.now
    ≡ items_at (known_mark_at l.bounds.floor.now l.bounds.to.now l.newest) (last_before mark_before) l.count [] l.fn.self.rest.now
