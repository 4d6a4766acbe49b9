use Rattle.std.proofs.Common.{sym, ◌∙◌}
use Rattle.pr_marks.proofs.Rows.{first_passing, none_passing, after_name}
use Rattle.pr_marks.proofs.marks.next_after.Goals as goal

pub returns-in-Some : goal.returns-in-Some
returns-in-Some c = sym (first_passing _ _ (after_name c.args.name.now) c.args.rows.now.entries _ (c.in-Some.next.now, c.in-Some.field-0-1.now) (sym (c.range.ensures.between tt) ∙ c.in-Some.ensures.steps))

pub returns-in-None : goal.returns-in-None
returns-in-None c = sym (none_passing _ _ (after_name c.args.name.now) c.args.rows.now.entries (sym (c.range.ensures.between tt) ∙ c.in-None.ensures.steps.0))
