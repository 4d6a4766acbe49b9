use Rattle.std.proofs.Common.{take}
use Rattle.pr_story.specs.Search.{IsNewestRow}
use Rattle.pr_story.proofs.NewestFirst.{with_next, with_whole}
use Rattle.pr_story.proofs.plain.newest.in_rows.Goals as goal

pub loop-row-preserved : goal.loop-row-preserved
loop-row-preserved c =
    with_next (λ rows. IsNewestRow rows c.args.name.now c.with_row-newest.result) _ _ c.row-item.result c.loop-row-test.true c.row-item.is
    (c.with_row-newest.ensures (take c.loop-row.row-index c.args.rows.now) c.loop-row.invariant)

pub returns : goal.returns
returns c = with_whole (λ rows. IsNewestRow rows c.args.name.now c.loop-row.newest) _ _ c.loop-row-test.false c.loop-row.invariant
