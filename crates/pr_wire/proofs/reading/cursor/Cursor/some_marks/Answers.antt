use Rattle.std.proofs.Common.{[]}
use Rattle.pr_wire.specs.Reading.{items_at, known_mark_at, last_before, mark_before}
use Rattle.std.proofs.lemmas.Result.{err_from_is_err_and}
use Rattle.pr_wire.proofs.Loops.{items_done, items_fail, items_go_on, items_refused, not_false, not_true}
use Rattle.pr_wire.proofs.reading.cursor.Cursor.some_marks.Goals as goal

pub returns-in_err-stamp : goal.returns-in_err-stamp
returns-in_err-stamp c =
    let item = known_mark_at c.args.bounds.now.floor.now c.args.bounds.now.to.now c.args.newest.now in
    let p = err_from_is_err_and c.from_residual-in_err-stamp.result c.from_residual-in_err-stamp.ensures.1 in
    rw (p.1, p.2)
    (items_fail c.in_err-stamp.field-0.0 item (last_before mark_before) c.args.count c.loop.counter c.loop.marks c.loop.self.rest.now (items_at item (last_before mark_before) c.args.count [] c.args.self.now.rest.now) c.loop-test.true c.in_err-stamp.ensures c.loop.invariant)

pub returns-then-not-can_follow : goal.returns-then-not-can_follow
returns-then-not-can_follow c =
    let item = known_mark_at c.args.bounds.now.floor.now c.args.bounds.now.to.now c.args.newest.now in
    items_refused item (last_before mark_before) c.args.count c.loop.counter c.loop.marks c.loop.self.rest.now c.in_ok-stamp.field-0 c.known_mark.new.self.rest.now (items_at item (last_before mark_before) c.args.count [] c.args.self.now.rest.now) c.loop-test.true c.in_ok-stamp.ensures (not_true c.can_follow.ensures c.if-not-can_follow.true) c.loop.invariant

pub loop-preserved : goal.loop-preserved
loop-preserved c =
    let item = known_mark_at c.args.bounds.now.floor.now c.args.bounds.now.to.now c.args.newest.now in
    rw c.in_ok-push.ensures.ok
    (items_go_on item (last_before mark_before) c.args.count c.loop.counter c.loop.marks c.loop.self.rest.now c.in_ok-stamp.field-0 c.known_mark.new.self.rest.now (items_at item (last_before mark_before) c.args.count [] c.args.self.now.rest.now) c.loop-test.true c.in_ok-stamp.ensures (not_false c.can_follow.ensures c.if-not-can_follow.false) c.loop.invariant)

pub returns : goal.returns
returns c =
    let item = known_mark_at c.args.bounds.now.floor.now c.args.bounds.now.to.now c.args.newest.now in
    items_done item (last_before mark_before) c.args.count c.loop.counter c.loop.marks c.loop.self.rest.now (items_at item (last_before mark_before) c.args.count [] c.args.self.now.rest.now) c.loop-test.false c.loop.invariant
