use Rattle.std.proofs.Common.{sym, ◌∙◌, subst}
use Rattle.std.proofs.lemmas.Result.{err_from_is_err_and}
use Rattle.pr_wire.specs.Reading.{Fails, entries_at}
use Rattle.pr_wire.proofs.Loops.{entries_done, entries_fail, entries_go_on}
use Rattle.pr_wire.proofs.VectorFields.{entry_later, later_same, same_entry}
use Rattle.pr_wire.proofs.reading.cursor.Cursor.entries.Goals as goal

pub returns-in_err-stamp : goal.returns-in_err-stamp
returns-in_err-stamp c =
    let from = c.args.vector.now in
    let p = err_from_is_err_and c.from_residual.result c.from_residual.ensures.1 in
    let same = same_entry c.loop.next c.loop.vector from c.loop.self.rest.now c.loop.invariant.later in
    rw (p.1, p.2)
    (entries_fail c.in_err-stamp.field-0.0 c.args.count c.loop.counter c.loop.next from c.loop.vector c.loop.self.rest.now (entries_at c.args.count 0 from from c.args.self.now.rest.now) c.loop-test.true (subst (Fails c.in_err-stamp.field-0.0) same c.in_err-stamp.ensures) c.loop.invariant.all)

pub loop-preserved : goal.loop-preserved
loop-preserved c =
    let from = c.args.vector.now in
    let stamp = c.in_ok-stamp.stamp in
    let same = same_entry c.loop.next c.loop.vector from c.loop.self.rest.now c.loop.invariant.later in
    let read = sym same ∙ c.in_ok-stamp.ensures in
    rw (c.node-next.ensures.node, c.raise.ensures) record {
      all = entries_go_on c.args.count c.loop.counter c.loop.next from c.loop.vector c.loop.self.rest.now stamp c.entry.new.self.rest.now (entries_at c.args.count 0 from from c.args.self.now.rest.now) c.loop-test.true read c.loop.invariant.all;
      later = later_same c.loop.next from c.loop.vector stamp (entry_later c.loop.next from c.loop.self.rest.now stamp c.entry.new.self.rest.now read) c.loop.invariant.later;
    }

pub returns : goal.returns
returns c =
    let from = c.args.vector.now in
    entries_done c.args.count c.loop.counter c.loop.next from c.loop.vector c.loop.self.rest.now (entries_at c.args.count 0 from from c.args.self.now.rest.now) c.loop-test.false c.loop.invariant.all
