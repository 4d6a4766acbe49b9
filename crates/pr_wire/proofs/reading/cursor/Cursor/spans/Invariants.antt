use Rattle.std.proofs.Common.{◌≡◌, ◌-◌, []}
use Rattle.pr_sets.specs.Spans.{is_behind}
use Rattle.pr_wire.specs.Reading.{items_at, span_at}
use Rattle.pr_wire.proofs.reading.cursor.Cursor.spans.Given as goal

abbrev pub invariant-loop : goal.invariant-loop
invariant-loop l = items_at span_at is_behind (l.count - l.counter) l.set l.self.rest.now ≡ items_at span_at is_behind l.count [] l.fn.self.rest.now
