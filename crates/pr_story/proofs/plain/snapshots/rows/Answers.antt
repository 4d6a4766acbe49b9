use Rattle.std.proofs.Common.{ℕ, List, take, reverse, subst}
use Rattle.pr_story.specs.Marking.{AreInOrder, AreRowsOf}
use Rattle.pr_story.proofs.NewestFirst.{with_next, with_whole}
use Rattle.pr_story.proofs.Snapshots.{rows_all, rows_more}
use Rattle.pr_story.proofs.plain.snapshots.rows.Goals as goal

pub loop-name-preserved : goal.loop-name-preserved
loop-name-preserved c =
    with_next (λ names. AreRowsOf (reverse c.args.entries.now) c.args.target.now names c.add_row.new.rows) _ _ c.name-item.result c.loop-name-test.true c.name-item.is
    (rows_more (reverse c.args.entries.now) c.args.target.now (take c.loop-name.name-index c.as_slice-name-items.result.now) c.name-item.result c.loop-name.rows c.add_row.new.rows c.in_ok-add_row.ensures c.loop-name.invariant)

pub returns : goal.returns
returns c =
    rows_all (reverse c.args.entries.now) c.args.target.now c.in_ok-known.known c.in_ok-names.names c.loop-name.rows c.in_ok-known.ensures
    (subst (λ (ns : List (List ℕ)). AreInOrder ns c.in_ok-names.names) c.as_slice.ensures c.in_ok-names.ensures)
    (subst (λ (ns : List (List ℕ)). AreRowsOf (reverse c.args.entries.now) c.args.target.now ns c.loop-name.rows) c.as_slice-name-items.ensures
    (with_whole (λ names. AreRowsOf (reverse c.args.entries.now) c.args.target.now names c.loop-name.rows) _ _ c.loop-name-test.false c.loop-name.invariant))
