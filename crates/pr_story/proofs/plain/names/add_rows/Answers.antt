use Rattle.std.proofs.Common.{◌≡◌, ◌++◌, take}
use Rattle.pr_story.specs.Sending.{row_names}
use Rattle.pr_story.proofs.NewestFirst.{with_next}
use Rattle.pr_story.proofs.Sendings.{pushed_row}
use Rattle.pr_story.proofs.plain.names.add_rows.Goals as goal

pub loop-row-preserved : goal.loop-row-preserved
loop-row-preserved c =
    with_next (λ rows. c.push.new.self ≡ c.args.names.now ++ row_names rows) _ _ c.row-item.result c.loop-row-test.true c.row-item.is
    (pushed_row c.args.names.now c.loop-row.names c.push.new.self (take c.loop-row.row-index c.args.rows.now) c.row-item.result c.in_ok-push.ensures.ok c.loop-row.invariant)
