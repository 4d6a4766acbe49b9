use Rattle.pr_node.specs.Scanning.{HasAwaited}
use Rattle.pr_story.specs.Sending.{row_names}
use Rattle.pr_story.proofs.NewestFirst.{with_next}
use Rattle.pr_node.proofs.Waiting.{refused, row_awaited}
use Rattle.pr_node.proofs.looking.look_at_rows.Goals as goal

pub returns-in_err-await_name-clause-err : goal.returns-in_err-await_name-clause-err
returns-in_err-await_name-clause-err c =
    refused c.from_residual.result c.args.scan.now c.loop-row.scan c.await_name.new.self c.args.names.now _ c.loop-row.invariant c.in_err-await_name.ensures.err

pub loop-row-preserved : goal.loop-row-preserved
loop-row-preserved c =
    with_next (λ rows. HasAwaited c.args.names.now (row_names rows) c.args.scan.now c.await_name.new.self) _ _ c.row-item.result c.loop-row-test.true c.row-item.is
    (row_awaited c.args.scan.now c.loop-row.scan c.await_name.new.self c.args.names.now _ c.row-item.result c.loop-row.invariant c.in_ok-await_name.ensures.ok)
