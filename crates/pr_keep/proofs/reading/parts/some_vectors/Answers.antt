use Rattle.std.proofs.Common.{[], refl}
use Rattle.std.proofs.lemmas.Result.{err_from_is_err_and}
use Rattle.pr_wire.specs.Reading.{items_at, vector_at}
use Rattle.pr_wire.proofs.Loops.{items_done, items_fail, items_go_on}
use Rattle.pr_keep.specs.Reading.{in_any_order}
use Rattle.pr_keep.proofs.reading.parts.some_vectors.Goals as goal

pub returns-in_err-vector : goal.returns-in_err-vector
returns-in_err-vector c =
    let p = err_from_is_err_and c.from_residual.result c.from_residual.ensures.1 in
    rw (p.1, p.2)
    (items_fail c.in_err-vector.field-0.0 vector_at in_any_order c.args.count c.loop.counter c.loop.vectors c.loop.cursor.rest.now (items_at vector_at in_any_order c.args.count [] c.args.cursor.now.rest.now) c.loop-test.true c.in_err-vector.ensures c.loop.invariant)

pub loop-preserved : goal.loop-preserved
loop-preserved c =
    rw c.in_ok-push.ensures.ok
    (items_go_on vector_at in_any_order c.args.count c.loop.counter c.loop.vectors c.loop.cursor.rest.now c.in_ok-vector.vector c.vector.new.self.rest.now (items_at vector_at in_any_order c.args.count [] c.args.cursor.now.rest.now) c.loop-test.true c.in_ok-vector.ensures refl c.loop.invariant)

pub returns : goal.returns
returns c = items_done vector_at in_any_order c.args.count c.loop.counter c.loop.vectors c.loop.cursor.rest.now (items_at vector_at in_any_order c.args.count [] c.args.cursor.now.rest.now) c.loop-test.false c.loop.invariant
