use Rattle.std.proofs.Common.{◌∙◌, sym, ap, arith, ◌-◌, length}
use Rattle.pr_stamps.specs.Point.{is_before}
use Rattle.pr_stamps.specs.declared.mark.Mark.{Mark}
use Rattle.pr_marks.proofs.Placed.{all_before}
use Rattle.pr_marks.proofs.in_order.start.Goals as goal

pub returns-then-is_before-clause-before : goal.returns-then-is_before-clause-before
returns-then-is_before-clause-before c =
    all_before c.args.marks.now c.args.stamp.now (length c.args.marks.now - c.loop-back.back) c.index-marks-at.result c.requires (omega (arith, c.loop-back-test.true, c.loop-back.invariant)) c.index-marks-at.is (ap (λ (m : Mark). is_before m.stamp c.args.stamp.now) c.index-marks-at.is ∙ sym c.is_before.ensures.test ∙ c.if-is_before.true)
