use Rattle.std.proofs.Common.{rules, ap, ◌∙◌, ◌≡◌, ◌<◌, length}
use Rattle.pr_wire.specs.Reading.{last_before, mark_before}
use Rattle.pr_wire.proofs.Loops.{last_is, last_none}
use Rattle.pr_wire.proofs.reading.lists.can_follow.Goals as goal

pub returns-then-is_empty : goal.returns-then-is_empty
returns-then-is_empty c = let e : length c.args.marks.now ≡ 0 = search rules in last_none mark_before c.args.marks.now c.args.mark.now e

pub returns : goal.returns
returns c =
    let last = c.index-marks-marks.result in
    let e : c.as_slice-marks.result.now ≡ c.args.marks.now = search rules in
    let some : 0 < length c.as_slice-marks.result.now = search rules in
    c.is_before.ensures.test
    ∙ (last_is mark_before c.as_slice-marks.result.now c.args.mark.now last some ∙ ap (λ t. last_before mark_before t c.args.mark.now) e)
