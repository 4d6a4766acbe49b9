use Rattle.std.proofs.Common.{reverse}
use Rattle.std.specs.Prelude.{Contains, ◌↔◌}
use Rattle.pr_stamps.specs.declared.mark.Mark.{Mark}
use Rattle.pr_vectors.specs.Vector.{Covers}
use Rattle.pr_story.specs.Knowledge.{IsMark}
use Rattle.pr_story.proofs.Marking.{marks_are}
use Rattle.pr_story.proofs.Withholding.{if_ok}
use Rattle.pr_story.proofs.plain.marks.marks_of.Goals as goal

pub returns-clause-each : goal.returns-clause-each
returns-clause-each c =
    if_ok c.above.result (λ kept. (mark : Mark) → Contains kept mark ↔ (Contains c.as_slice.result.now mark × (Covers c.floor_of.result mark.stamp → ⊥)))
    (λ kept. (mark : Mark) → Contains kept mark ↔ IsMark (reverse c.args.entries.now) c.args.name.now mark)
    (λ kept each. marks_are (reverse c.args.entries.now) c.args.name.now c.floor_of.result c.in_ok-marks.marks c.as_slice.result.now kept c.floor_of.ensures c.as_slice.ensures c.in_ok-marks.ensures each)
    c.above.ensures.each
