use Rattle.std.proofs.Common.{take, reverse}
use Rattle.pr_story.specs.Knowledge.{known_mark}
use Rattle.pr_story.specs.Marking.{AreMarks}
use Rattle.pr_story.proofs.NewestFirst.{with_more}
use Rattle.pr_story.proofs.plain.marks.known_marks.Goals as goal

pub loop-entry-preserved : goal.loop-entry-preserved
loop-entry-preserved c =
    with_more (λ h. AreMarks (known_mark h c.args.name.now) c.in_ok-marks.marks) _ _ c.entry-item.result c.loop-entry-test.true c.entry-item.is
    (c.in_ok-marks.ensures (known_mark (reverse (take c.loop-entry.entry-index c.args.entries.now)) c.args.name.now) c.loop-entry.invariant)
