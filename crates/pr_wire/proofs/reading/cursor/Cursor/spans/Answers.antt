use Rattle.std.proofs.Common.{[]}
use Rattle.pr_sets.specs.Spans.{is_behind}
use Rattle.pr_wire.specs.Reading.{items_at, span_at}
use Rattle.std.proofs.lemmas.Result.{err_from_is_err_and}
use Rattle.pr_wire.proofs.Loops.{items_done, items_fail, items_go_on, items_refused, not_false, not_true}
use Rattle.pr_wire.proofs.reading.cursor.Cursor.spans.Goals as goal

pub returns-in_err-span : goal.returns-in_err-span
returns-in_err-span c =
    let p = err_from_is_err_and c.from_residual-in_err-span.result c.from_residual-in_err-span.ensures.1 in
    rw (p.1, p.2)
    (items_fail c.in_err-span.field-0.0 span_at is_behind c.args.count c.loop.counter c.loop.set c.loop.self.rest.now (items_at span_at is_behind c.args.count [] c.args.self.now.rest.now) c.loop-test.true c.in_err-span.ensures c.loop.invariant)

pub returns-then-not-can_push : goal.returns-then-not-can_push
returns-then-not-can_push c =
    items_refused span_at is_behind c.args.count c.loop.counter c.loop.set c.loop.self.rest.now c.in_ok-span.span c.span.new.self.rest.now (items_at span_at is_behind c.args.count [] c.args.self.now.rest.now) c.loop-test.true c.in_ok-span.ensures (not_true c.can_push.ensures c.if-not-can_push.true) c.loop.invariant

pub loop-preserved : goal.loop-preserved
loop-preserved c =
    rw c.in_ok-push.ensures.ok
    (items_go_on span_at is_behind c.args.count c.loop.counter c.loop.set c.loop.self.rest.now c.in_ok-span.span c.span.new.self.rest.now (items_at span_at is_behind c.args.count [] c.args.self.now.rest.now) c.loop-test.true c.in_ok-span.ensures (not_false c.can_push.ensures c.if-not-can_push.false) c.loop.invariant)

pub returns : goal.returns
returns c = items_done span_at is_behind c.args.count c.loop.counter c.loop.set c.loop.self.rest.now (items_at span_at is_behind c.args.count [] c.args.self.now.rest.now) c.loop-test.false c.loop.invariant
