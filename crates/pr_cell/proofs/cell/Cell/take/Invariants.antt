use Rattle.std.proofs.Common.{◌≡◌}
use Rattle.pr_cell.specs.Steps.{waiting}
use Rattle.pr_cell.proofs.cell.Cell.take.Given as goal

abbrev pub invariant-loop : goal.invariant-loop
invariant-loop g l = (l.seat.table_id ≡ l.fn.pass.seat.table_id) × (l.seat.me ≡ (waiting l.ticket l.fn.pass.seat.me.0, l.fn.pass.seat.me.1)) × (l.number ≡ l.fn.pass.number)
