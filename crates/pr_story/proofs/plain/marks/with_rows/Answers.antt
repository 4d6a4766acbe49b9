use Rattle.std.proofs.Common.{take}
use Rattle.pr_story.specs.Knowledge.{mark_in_rows}
use Rattle.pr_story.specs.Marking.{IsMarkedBy}
use Rattle.pr_story.proofs.NewestFirst.{with_next, with_whole}
use Rattle.pr_story.proofs.Marking.{row_more}
use Rattle.pr_story.proofs.plain.marks.with_rows.Goals as goal

pub loop-row-preserved : goal.loop-row-preserved
loop-row-preserved c =
    with_next (λ rows. IsMarkedBy c.args.marks (mark_in_rows rows c.args.name.now) c.in_ok-more.more) _ _ c.row-item.result c.loop-row-test.true c.row-item.is
    (row_more c.args.marks c.loop-row.more c.in_ok-more.more (take c.loop-row.row-index c.args.rows.now) c.row-item.result c.args.name.now c.loop-row.invariant c.in_ok-more.ensures)

pub returns : goal.returns
returns c = with_whole (λ rows. IsMarkedBy c.args.marks (mark_in_rows rows c.args.name.now) c.loop-row.more) _ _ c.loop-row-test.false c.loop-row.invariant
