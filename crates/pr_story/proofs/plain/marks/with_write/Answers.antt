use Rattle.pr_story.specs.Knowledge.{mark_of}
use Rattle.pr_story.specs.Marking.{IsMarkedBy, if_at, mark_by_write}
use Rattle.pr_story.proofs.Marking.{marked_same, write_same}
use Rattle.pr_story.proofs.Withholding.{if_ok}
use Rattle.pr_story.proofs.plain.marks.with_write.Goals as goal

pub returns : goal.returns
returns c =
    if_ok c.with_mark.result (IsMarkedBy c.args.marks (if_at (mark_of c.args.write.now))) (IsMarkedBy c.args.marks (mark_by_write c.args.write.now c.args.name.now))
    (λ now by. marked_same c.args.marks now (if_at (mark_of c.args.write.now)) (mark_by_write c.args.write.now c.args.name.now)
    (λ s. write_same c.args.write.now c.args.name.now s (c.is_same.ensures.0 (let f = c.if-not-is_same.false in cc))) by)
    c.with_mark.ensures
