use Rattle.std.proofs.Common.{sym}
use Rattle.std.proofs.lemmas.Result.{err_from_is_err_and}
use Rattle.std.proofs.lemmas.List.Elements.{All-push}
use Rattle.pr_story.specs.Counts.{HasRow}
use Rattle.pr_story.specs.Ranges.{IsRow}
use Rattle.pr_text.specs.Numbers.{nodes_of}
use Rattle.pr_check.specs.Parts.{row_read}
use Rattle.pr_check.proofs.PartLoops.{items_done, items_go_on, items_stop}
use Rattle.pr_check.proofs.row.some_rows.Goals as goal

pub returns-in_err-row-clause-reads : goal.returns-in_err-row-clause-reads
returns-in_err-row-clause-reads c =
    let p = err_from_is_err_and c.from_residual.result c.from_residual.ensures.1 in
    rw (p.1, p.2) (items_stop (row_read c.args.decls.now) 44 c.in_err-row.field-0.0 c.loop-rest.rows c.loop-rest.rest.now c.cut.result.0.now c.cut.result.1.now _ (record { some = c.loop-rest-test.ensures; first = c.cut.ensures.before; later = c.cut.ensures.after }) c.in_err-row.ensures.reads c.loop-rest.invariant.read)

pub loop-rest-preserved : goal.loop-rest-preserved
loop-rest-preserved c = rw c.in_ok-push.ensures.ok (record {
  read = items_go_on (row_read c.args.decls.now) 44 c.loop-rest.rows c.in_ok-row.field-0 c.loop-rest.rest.now c.cut.result.0.now c.cut.result.1.now _ (record { some = c.loop-rest-test.ensures; first = c.cut.ensures.before; later = c.cut.ensures.after }) (sym c.in_ok-row.ensures.reads) c.loop-rest.invariant.read;
  range = All-push IsRow c.loop-rest.rows c.in_ok-row.field-0 c.loop-rest.invariant.range c.in_ok-row.ensures.range;
  declared = All-push (HasRow (nodes_of c.args.decls.now)) c.loop-rest.rows c.in_ok-row.field-0 c.loop-rest.invariant.declared c.in_ok-row.ensures.declared;
})

pub returns-clause-reads : goal.returns-clause-reads
returns-clause-reads c = items_done (row_read c.args.decls.now) 44 c.loop-rest.rows c.loop-rest.rest.now _ c.loop-rest-test.ensures c.loop-rest.invariant.read
