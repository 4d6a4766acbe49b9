use Rattle.std.proofs.Common.{List, sym, subst}
use Rattle.pr_inval.specs.declared.row.Row.{Row}
use Rattle.pr_story.specs.declared.event.Event.{Event}
use Rattle.pr_story.specs.Knowledge.{mark_in_rows, mark_told}
use Rattle.pr_story.specs.Marking.{IsMarkedBy, mark_by_write}
use Rattle.pr_story.proofs.Marking.{told_precise, told_rows}
use Rattle.pr_story.proofs.Withholding.{if_ok}
use Rattle.pr_story.proofs.plain.marks.with_event.Goals as goal

pub returns-in-Wrote : goal.returns-in-Wrote
returns-in-Wrote c =
    if_ok c.with_write.result (IsMarkedBy c.args.marks (mark_by_write c.in-Wrote.write c.args.name.now)) (IsMarkedBy c.args.marks (mark_told c.args.event.now c.args.name.now))
    (λ now by. subst (λ (e : Event). IsMarkedBy c.args.marks (mark_told e c.args.name.now) now) (sym c.in-Wrote.is) by)
    c.with_write.ensures

pub returns-in-Precise : goal.returns-in-Precise
returns-in-Precise c =
    if_ok c.with_write-in-Precise.result (IsMarkedBy c.args.marks (mark_by_write c.in-Precise.write c.args.name.now)) (IsMarkedBy c.args.marks (mark_told c.args.event.now c.args.name.now))
    (λ now by. subst (λ (e : Event). IsMarkedBy c.args.marks (mark_told e c.args.name.now) now) (sym c.in-Accepted.is)
    (told_precise c.args.marks now c.in-Accepted.msg c.in-Accepted.at c.in-Precise.from c.in-Precise.to c.in-Precise.write c.args.name.now c.in-Precise.is by))
    c.with_write-in-Precise.ensures

pub returns-in-Checkpoint : goal.returns-in-Checkpoint
returns-in-Checkpoint c =
    if_ok c.with_rows.result (IsMarkedBy c.args.marks (mark_in_rows c.as_slice.result.now c.args.name.now)) (IsMarkedBy c.args.marks (mark_told c.args.event.now c.args.name.now))
    (λ now by. subst (λ (e : Event). IsMarkedBy c.args.marks (mark_told e c.args.name.now) now) (sym c.in-Accepted.is)
    (told_rows c.args.marks now c.in-Accepted.msg c.in-Accepted.at c.in-Checkpoint.to c.in-Checkpoint.floor c.in-Checkpoint.target c.in-Checkpoint.rows c.args.name.now c.in-Checkpoint.is
    (subst (λ (rows : List Row). IsMarkedBy c.args.marks (mark_in_rows rows c.args.name.now) now) c.as_slice.ensures by)))
    c.with_rows.ensures
