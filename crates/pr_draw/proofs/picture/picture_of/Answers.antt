use Rattle.std.proofs.Common.{ℕ, List, subst}
use Rattle.pr_draw.specs.Pictures.{IsOpening}
use Rattle.pr_draw.specs.Tags.{Adds}
use Rattle.pr_draw.proofs.Whole.{has_picture, is_document}
use Rattle.pr_draw.proofs.picture.picture_of.Goals as goal

pub returns-clause-picture : goal.returns-clause-picture
returns-clause-picture c =
    has_picture c.args.text.now c.write_opening.new.out c.write_sheet.new.out c.write_legend.new.out c.write_groups.new.out c.extend.new.self
    (subst (λ (t : List ℕ). Adds IsOpening t c.write_opening.new.out) c.new-out.ensures c.in_ok-write_opening.ensures)
    c.in_ok-write_sheet.ensures c.in_ok-write_legend.ensures c.in_ok-write_groups.ensures c.in_ok-extend.ensures.ok

pub returns-clause-document : goal.returns-clause-document
returns-clause-document c = is_document c.args.text.now c.extend.new.self (returns-clause-picture c)
