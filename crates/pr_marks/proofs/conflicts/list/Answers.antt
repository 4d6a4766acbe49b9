use Rattle.std.proofs.Common.{◌≡◌, ◌∙◌, get_or, sym, subst, true}
use Rattle.std.proofs.lemmas.List.{get_or_default}
use Rattle.pr_stamps.specs.Marks.{is_conflict}
use Rattle.pr_stamps.specs.declared.mark.Mark.{Mark}
use Rattle.pr_marks.specs.Conflicting.{HasStamp}
use Rattle.pr_marks.proofs.Conflicting.{on_ok}
use Rattle.pr_marks.proofs.conflicts.list.Goals as goal

pub returns-clause-behind : goal.returns-clause-behind
returns-clause-behind c =
    on_ok c.list_later.result
    (λ lists d lt e.
    let same : get_or c.args.marks.now c.args.at d ≡ c.index-marks-at.result = get_or_default c.args.marks.now c.args.at d c.index-marks-at.result lt ∙ sym c.index-marks-at.is in
    subst (λ (m : Mark). HasStamp c.list_later.new.listed.items m.stamp) (sym same) (lists (subst (λ (m : Mark). is_conflict c.args.mark.now m ≡ true) same e)))
    c.list_later.ensures.ok
