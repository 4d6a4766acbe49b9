use Rattle.std.proofs.Common.{sym, ◌∙◌, ap}
use Rattle.std.specs.Option.{option_map}
use Rattle.pr_marks.specs.Row.{Kept}
use Rattle.pr_marks.specs.Table.{marks_in}
use Rattle.pr_marks.proofs.Rows.{row_at}
use Rattle.pr_marks.proofs.marks.Marks.known.Goals as goal

pub returns-in-Some-clause-value : goal.returns-in-Some-clause-value
returns-in-Some-clause-value c =
    let row = row_at c.args.name.now c.self.inside.rows.entries ∙ sym c.in-Some.ensures.value in
    rw (← c.self.view_is, c.newest.ensures, c.marks.ensures.value) (ap (option_map (λ (k : Kept). k.newest)) row, sym (ap marks_in row))

pub returns-in-None-clause-value : goal.returns-in-None-clause-value
returns-in-None-clause-value c = rw (← c.self.view_is) (ap (option_map (λ (k : Kept). k.newest)) (row_at c.args.name.now c.self.inside.rows.entries ∙ sym c.in-None.ensures.value))
