use Rattle.std.proofs.Common.{[], refl}
use Rattle.std.proofs.lemmas.Result.{err_from_is_err_and}
use Rattle.pr_wire.specs.Reading.{items_at}
use Rattle.pr_wire.proofs.Loops.{items_done, items_fail, items_go_on}
use Rattle.pr_keep.specs.Reading.{in_any_order, pair_at}
use Rattle.pr_keep.proofs.reading.parts.some_pairs.Goals as goal

pub returns-in_err-next : goal.returns-in_err-next
returns-in_err-next c =
    let p = err_from_is_err_and c.from_residual.result c.from_residual.ensures.1 in
    rw (p.1, p.2)
    (items_fail c.in_err-next.field-0.0 pair_at in_any_order c.args.count c.loop.counter c.loop.pairs c.loop.cursor.rest.now (items_at pair_at in_any_order c.args.count [] c.args.cursor.now.rest.now) c.loop-test.true c.in_err-next.ensures c.loop.invariant)

pub loop-preserved : goal.loop-preserved
loop-preserved c =
    rw c.in_ok-push.ensures.ok
    (items_go_on pair_at in_any_order c.args.count c.loop.counter c.loop.pairs c.loop.cursor.rest.now c.in_ok-next.next c.pair.new.cursor.rest.now (items_at pair_at in_any_order c.args.count [] c.args.cursor.now.rest.now) c.loop-test.true c.in_ok-next.ensures refl c.loop.invariant)

pub returns : goal.returns
returns c = items_done pair_at in_any_order c.args.count c.loop.counter c.loop.pairs c.loop.cursor.rest.now (items_at pair_at in_any_order c.args.count [] c.args.cursor.now.rest.now) c.loop-test.false c.loop.invariant
