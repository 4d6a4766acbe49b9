use Rattle.std.proofs.Common.{[], arith, length-set, ◌∙◌}
use Rattle.pr_gaps.specs.Gaps.{IsTargeted}
use Rattle.pr_stamps.proofs.Places.{done_more, rest_more}
use Rattle.pr_gaps.proofs.gaps.cover_rows.Goals as goal

pub loop-index-preserved : goal.loop-index-preserved
loop-index-preserved c = record {
  len = length-set c.loop-index.rows.items c.loop-index.index c.cover_row.new.row ∙ c.loop-index.invariant.len;
  done = done_more (IsTargeted c.args.from.now c.args.to.now c.args.target.now c.args.sets.now c.args.rest.now) c.loop-index.rows.items c.args.rows.now.items [] c.loop-index.index c.index_mut-row.result.now c.cover_row.new.row (omega (arith, c.loop-index.invariant.len)) c.index_mut-row.ensures.value (rw (← c.nth-set.ensures) c.in_ok-cover_row.ensures) c.loop-index.invariant.done c.loop-index.invariant.rest;
  rest = rest_more c.loop-index.rows.items c.args.rows.now.items [] c.loop-index.index c.cover_row.new.row c.loop-index.invariant.rest;
}

pub returns-clause-told : goal.returns-clause-told
returns-clause-told c i lt = c.loop-index.invariant.done i (omega arith)
