use Rattle.std.proofs.Common.{take}
use Rattle.pr_story.specs.Knowledge.{mark_at}
use Rattle.pr_story.specs.Marking.{IsMarkedBy}
use Rattle.pr_story.proofs.NewestFirst.{with_next, with_whole}
use Rattle.pr_story.proofs.Marking.{mark_more}
use Rattle.pr_story.proofs.plain.marks.with_marks.Goals as goal

pub loop-mark-preserved : goal.loop-mark-preserved
loop-mark-preserved c =
    with_next (λ told. IsMarkedBy c.args.marks (mark_at told) c.in_ok-more.more) _ _ c.mark-item.result c.loop-mark-test.true c.mark-item.is
    (mark_more c.args.marks c.loop-mark.more c.in_ok-more.more (take c.loop-mark.mark-index c.args.told.now) c.mark-item.result c.loop-mark.invariant c.in_ok-more.ensures)

pub returns : goal.returns
returns c = with_whole (λ told. IsMarkedBy c.args.marks (mark_at told) c.loop-mark.more) _ _ c.loop-mark-test.false c.loop-mark.invariant
