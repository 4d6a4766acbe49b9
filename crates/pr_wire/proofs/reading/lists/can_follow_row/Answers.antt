use Rattle.std.proofs.Common.{rules, ap, ◌∙◌, ◌≡◌, ◌<◌, length}
use Rattle.pr_wire.specs.Reading.{last_before, row_before}
use Rattle.pr_wire.proofs.Loops.{last_is, last_none}
use Rattle.pr_wire.proofs.reading.lists.can_follow_row.Goals as goal

pub returns-then-is_empty : goal.returns-then-is_empty
returns-then-is_empty c = let e : length c.args.rows.now ≡ 0 = search rules in last_none row_before c.args.rows.now c.args.row.now e

pub returns : goal.returns
returns c =
    let last = c.index-rows-rows.result in
    let e : c.as_slice-rows.result.now ≡ c.args.rows.now = search rules in
    let some : 0 < length c.as_slice-rows.result.now = search rules in
    c.is_below.ensures
    ∙ (last_is row_before c.as_slice-rows.result.now c.args.row.now last some ∙ ap (λ t. last_before row_before t c.args.row.now) e)
