use Rattle.std.proofs.Common.{[], List, arith, length, ℕ, ◌≡◌, subst}
use Rattle.pr_inval.specs.declared.write_rec.WriteRec.{WriteRec}
use Rattle.pr_log.specs.Known.{IsByStamp, row_of}
use Rattle.pr_log.proofs.Places.{at_place}
use Rattle.pr_log.proofs.Stamped.{none_at_zero}
use Rattle.pr_log.proofs.index.list_names.Goals as goal

pub list_names-requires : goal.list_names-requires
list_names-requires c =
    let len : length c.loop-n.rows.items ≡ 32 = rw c.loop-n.invariant c.requires.len in
    let by_stamp : IsByStamp c.loop-n.rows.items = rw c.loop-n.invariant c.requires.by_stamp in
    let row : c.index_mut-row.result.now ≡ row_of c.loop-n.rows.items c.loop-n.n = at_place c.loop-n.rows.items c.loop-n.n c.index_mut-row.result.now [] c.index_mut-row.ensures.value (omega (arith, len, c.loop-n-test.true)) in
    rw row (none_at_zero c.loop-n.rows.items c.loop-n.n by_stamp)
