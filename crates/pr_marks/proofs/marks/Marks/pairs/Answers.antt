use Rattle.std.proofs.Common.{◌≡◌, sym, ◌∙◌, ap, subst}
use Rattle.std.specs.Prelude.{IfOk}
use Rattle.pr_marks.specs.Pairs.{pairs_of}
use Rattle.pr_marks.specs.Table.{marks_in}
use Rattle.pr_marks.proofs.Rows.{row_at}
use Rattle.pr_marks.proofs.marks.Marks.pairs.Goals as goal

pub returns-in-Some : goal.returns-in-Some
returns-in-Some c = rw (← c.self.view_is) (subst (λ a. IfOk c.pairs.result (λ pairs. pairs ≡ a)) (sym (ap (λ r. pairs_of (marks_in r)) (row_at c.args.name.now c.self.inside.rows.entries ∙ sym c.in-Some.ensures.value))) c.pairs.ensures)

pub returns-in-None : goal.returns-in-None
returns-in-None c = rw (← c.self.view_is) (c.new.ensures ∙ sym (ap (λ r. pairs_of (marks_in r)) (row_at c.args.name.now c.self.inside.rows.entries ∙ sym c.in-None.ensures.value)))
