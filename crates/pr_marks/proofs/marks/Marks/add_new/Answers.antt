use Rattle.std.proofs.Common.{◌≡◌, None, rules, refl, subst, sym, ap, ◌∙◌}
use Rattle.pr_marks.specs.Row.{Kept}
use Rattle.pr_marks.specs.Table.{Table, marks_in, row_of}
use Rattle.pr_marks.proofs.Listed.{listed_more, listed_row}
use Rattle.pr_marks.proofs.Rows.{is_marked, written}
use Rattle.pr_marks.proofs.marks.Marks.add_new.Goals as goal

pub invariant_of-self-2 : goal.invariant_of-self-2
invariant_of-self-2 c =
    let was = sym (subst (λ (t : Table). row_of t c.args.name.now ≡ None) (sym c.self.view_is) c.requires) in
    listed_more c.args.name.now c.self.inside.rows.entries c.insert.new.self.entries c.note.new.row c.self.inside.marked.items c.note.new.marked.items
    (written c.args.name.now c.self.inside.rows.entries c.insert.new.self.entries c.note.new.row (λ q. search (rules, c.in_ok-insert.ensures.updates.0 q)))
    c.self.invariant
    (c.note.ensures.listed (listed_row c.args.name.now c.self.inside.rows.entries c.self.inside.marked.items c.new-row.result.marks c.self.invariant (ap (λ (k : Kept). k.marks) c.new-row.ensures ∙ ap marks_in was)))
    c.note.ensures.stay

pub returns-clause-ok : goal.returns-clause-ok
returns-clause-ok c =
    let was = sym (subst (λ (t : Table). row_of t c.args.name.now ≡ None) (sym c.self.view_is) c.requires) in
    rw (← c.self.view_is) (is_marked _ _ c.args.name.now c.args.mark.now c.args.gone c.note.new.row c.new-row.result None c.newest_of.result refl
    (written c.args.name.now c.self.inside.rows.entries c.insert.new.self.entries c.note.new.row (λ q. search (rules, c.in_ok-insert.ensures.updates.0 q)))
    was c.newest_of.ensures
    (ap (λ (k : Kept). k.newest) c.new-row.ensures) (ap (λ (k : Kept). k.marks) c.new-row.ensures)
    c.note.ensures.newest c.in_ok-note.ensures.marks)
