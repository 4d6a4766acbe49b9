use Rattle.pr_story.specs.Knowledge.{mark_at}
use Rattle.pr_story.specs.Marking.{IsMarkedBy, mark_by_row}
use Rattle.pr_story.proofs.Marking.{marked_same, row_same}
use Rattle.pr_story.proofs.Withholding.{if_ok}
use Rattle.pr_story.proofs.plain.marks.with_row.Goals as goal

pub returns : goal.returns
returns c =
    if_ok c.with_marks.result (IsMarkedBy c.args.marks (mark_at c.as_slice.result.now)) (IsMarkedBy c.args.marks (mark_by_row c.args.row.now c.args.name.now))
    (λ now by. marked_same c.args.marks now (mark_at c.as_slice.result.now) (mark_by_row c.args.row.now c.args.name.now)
    (λ s. row_same c.args.row.now c.args.name.now c.as_slice.result.now s c.as_slice.ensures (c.is_same.ensures.0 (let f = c.if-not-is_same.false in cc))) by)
    c.with_marks.ensures
