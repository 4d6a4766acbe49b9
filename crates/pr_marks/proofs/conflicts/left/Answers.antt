use Rattle.std.proofs.Common.{ap, arith, get_or, subst, ◌-◌}
use Rattle.std.proofs.lemmas.List.{get_or_default}
use Rattle.pr_stamps.specs.declared.mark.Mark.{Mark}
use Rattle.pr_marks.proofs.Conflicting.{AreNotBefore, IsNotAt, all_free, rest_free}
use Rattle.pr_marks.proofs.conflicts.left.Goals as goal

pub returns-then-before-eq0-clause-free : goal.returns-then-before-eq0-clause-free
returns-then-before-eq0-clause-free c k d less from le =
    all_free c.args.marks.now c.args.listed.now (get_or c.args.marks.now c.args.at c.index-marks-at.result).stamp c.args.at d c.requires.rise c.requires.listed c.requires.within
    (ap (λ (m : Mark). m.stamp) (get_or_default c.args.marks.now c.args.at c.index-marks-at.result d c.requires.within))
    (subst (AreNotBefore c.args.listed.now (get_or c.args.marks.now c.args.at c.index-marks-at.result).stamp) c.if-before-eq0.true c.place-before.ensures.after)
    (subst (IsNotAt c.args.listed.now (get_or c.args.marks.now c.args.at c.index-marks-at.result).stamp) c.if-before-eq0.true (c.stands_at.ensures.not_here c.if-stands_at.false))
    k le

pub returns-clause-free : goal.returns-clause-free
returns-clause-free c k d less from le =
    rest_free c.args.marks.now c.args.listed.now (get_or c.args.marks.now c.args.at c.index-marks-at.result).stamp (get_or c.args.listed.now (c.place-before.result - 1) c.index-listed-before.result).stamp c.args.at c.place-before.result c.place-last.result d c.requires.rise c.requires.listed c.requires.within
    (ap (λ (m : Mark). m.stamp) (get_or_default c.args.marks.now c.args.at c.index-marks-at.result d c.requires.within))
    c.place-before.ensures.within c.place-before.ensures.after (c.stands_at.ensures.not_here c.if-stands_at.false)
    (ap (λ (m : Mark). m.stamp) (get_or_default c.args.listed.now (c.place-before.result - 1) c.index-listed-before.result d (omega (arith, c.if-before-eq0.false, c.place-before.ensures.within))))
    c.place-last.ensures.after
    k from le
