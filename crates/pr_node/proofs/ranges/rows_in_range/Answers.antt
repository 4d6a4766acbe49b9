use Rattle.std.proofs.Common.{All, take, [], ◌∷◌}
use Rattle.std.proofs.lemmas.List.Elements.{All-append}
use Rattle.pr_story.proofs.NewestFirst.{with_next, with_whole}
use Rattle.pr_story.specs.Ranges.{IsRow}
use Rattle.pr_node.proofs.Starts.{all_one}
use Rattle.pr_node.proofs.ranges.rows_in_range.Goals as goal

pub loop-row-preserved : goal.loop-row-preserved
loop-row-preserved c =
    with_next (λ rows. All IsRow rows) c.args.rows.now c.loop-row.row-index c.row-item.result c.loop-row-test.true c.row-item.is
    (All-append IsRow (take c.loop-row.row-index c.args.rows.now) (c.row-item.result ∷ []) c.loop-row.invariant (all_one IsRow c.row-item.result c.row_in_range.ensures))

pub returns : goal.returns
returns c = with_whole (λ rows. All IsRow rows) c.args.rows.now c.loop-row.row-index c.loop-row-test.false c.loop-row.invariant
