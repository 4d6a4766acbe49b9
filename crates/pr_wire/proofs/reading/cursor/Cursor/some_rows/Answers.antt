use Rattle.std.proofs.Common.{[]}
use Rattle.pr_wire.specs.Reading.{items_at, last_before, row_at, row_before}
use Rattle.std.proofs.lemmas.Result.{err_from_is_err_and}
use Rattle.pr_wire.proofs.Loops.{items_done, items_fail, items_go_on, items_refused, not_false, not_true}
use Rattle.pr_wire.proofs.reading.cursor.Cursor.some_rows.Goals as goal

pub returns-in_err-row : goal.returns-in_err-row
returns-in_err-row c =
    let item = row_at c.args.bounds.now.format c.args.bounds.now.floor.now c.args.bounds.now.to.now c.args.bounds.now.target.now in
    let p = err_from_is_err_and c.from_residual-in_err-row.result c.from_residual-in_err-row.ensures.1 in
    rw (p.1, p.2)
    (items_fail c.in_err-row.field-0.0 item (last_before row_before) c.args.count c.loop.counter c.loop.rows c.loop.self.rest.now (items_at item (last_before row_before) c.args.count [] c.args.self.now.rest.now) c.loop-test.true c.in_err-row.ensures c.loop.invariant)

pub returns-then-not-can_follow_row : goal.returns-then-not-can_follow_row
returns-then-not-can_follow_row c =
    let item = row_at c.args.bounds.now.format c.args.bounds.now.floor.now c.args.bounds.now.to.now c.args.bounds.now.target.now in
    items_refused item (last_before row_before) c.args.count c.loop.counter c.loop.rows c.loop.self.rest.now c.in_ok-row.row c.row.new.self.rest.now (items_at item (last_before row_before) c.args.count [] c.args.self.now.rest.now) c.loop-test.true c.in_ok-row.ensures (not_true c.can_follow_row.ensures c.if-not-can_follow_row.true) c.loop.invariant

pub loop-preserved : goal.loop-preserved
loop-preserved c =
    let item = row_at c.args.bounds.now.format c.args.bounds.now.floor.now c.args.bounds.now.to.now c.args.bounds.now.target.now in
    rw c.in_ok-push.ensures.ok
    (items_go_on item (last_before row_before) c.args.count c.loop.counter c.loop.rows c.loop.self.rest.now c.in_ok-row.row c.row.new.self.rest.now (items_at item (last_before row_before) c.args.count [] c.args.self.now.rest.now) c.loop-test.true c.in_ok-row.ensures (not_false c.can_follow_row.ensures c.if-not-can_follow_row.false) c.loop.invariant)

pub returns : goal.returns
returns c =
    let item = row_at c.args.bounds.now.format c.args.bounds.now.floor.now c.args.bounds.now.to.now c.args.bounds.now.target.now in
    items_done item (last_before row_before) c.args.count c.loop.counter c.loop.rows c.loop.self.rest.now (items_at item (last_before row_before) c.args.count [] c.args.self.now.rest.now) c.loop-test.false c.loop.invariant
