use Rattle.std.proofs.Common.{sym, ◌∙◌, ap}
use Rattle.std.specs.Option.{option_map}
use Rattle.pr_marks.specs.Row.{Kept}
use Rattle.pr_marks.proofs.Rows.{row_at}
use Rattle.pr_marks.proofs.marks.Marks.newest.Goals as goal

pub returns-in-Some : goal.returns-in-Some
returns-in-Some c = rw (← c.self.view_is, c.newest.ensures) (sym (ap (option_map (λ (k : Kept). k.newest)) (row_at c.args.name.now c.self.inside.rows.entries ∙ sym c.in-Some.ensures.value)))

pub returns-in-None : goal.returns-in-None
returns-in-None c = rw (← c.self.view_is) (sym (ap (option_map (λ (k : Kept). k.newest)) (row_at c.args.name.now c.self.inside.rows.entries ∙ sym c.in-None.ensures.value)))
