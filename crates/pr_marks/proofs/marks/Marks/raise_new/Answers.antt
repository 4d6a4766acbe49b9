use Rattle.std.proofs.Common.{◌≡◌, None, rules, refl, subst, sym, ap, ◌∙◌}
use Rattle.pr_marks.specs.Row.{Kept}
use Rattle.pr_marks.specs.Table.{Table, marks_in, row_of}
use Rattle.pr_marks.proofs.Listed.{listed_more, listed_row}
use Rattle.pr_marks.proofs.Rows.{is_raised, written}
use Rattle.pr_marks.proofs.marks.Marks.raise_new.Goals as goal

pub invariant_of-self-2 : goal.invariant_of-self-2
invariant_of-self-2 c =
    let was = sym (subst (λ (t : Table). row_of t c.args.name.now ≡ None) (sym c.self.view_is) c.requires) in
    listed_more c.args.name.now c.self.inside.rows.entries c.insert.new.self.entries c.new.result c.self.inside.marked.items c.self.inside.marked.items
    (written c.args.name.now c.self.inside.rows.entries c.insert.new.self.entries c.new.result (λ q. search (rules, c.in_ok-insert.ensures.updates.0 q)))
    c.self.invariant
    (listed_row c.args.name.now c.self.inside.rows.entries c.self.inside.marked.items c.new.result.marks c.self.invariant (ap (λ (k : Kept). k.marks) c.new.ensures ∙ ap marks_in was))
    (λ o h. h)

pub returns-clause-ok : goal.returns-clause-ok
returns-clause-ok c =
    let was = sym (subst (λ (t : Table). row_of t c.args.name.now ≡ None) (sym c.self.view_is) c.requires) in
    rw (← c.self.view_is) (is_raised _ _ c.args.name.now c.args.newest.now c.new.result None refl
    (written c.args.name.now c.self.inside.rows.entries c.insert.new.self.entries c.new.result (λ q. search (rules, c.in_ok-insert.ensures.updates.0 q)))
    was (ap (λ (k : Kept). k.newest) c.new.ensures) (ap (λ (k : Kept). k.marks) c.new.ensures))
