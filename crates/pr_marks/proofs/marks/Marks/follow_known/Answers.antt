use Rattle.std.proofs.Common.{Some, rules, refl, subst, sym, ap, ◌∙◌, IsSome}
use Rattle.std.specs.Option.{option_map}
use Rattle.pr_stamps.specs.declared.mark.Mark.{Mark}
use Rattle.pr_stamps.specs.declared.newest.Newest.{Newest}
use Rattle.pr_marks.specs.Row.{Kept}
use Rattle.pr_marks.specs.Table.{marks_in}
use Rattle.pr_marks.proofs.Listed.{listed_more, listed_row}
use Rattle.pr_marks.proofs.Rows.{is_marked, marked_as, row_at, written}
use Rattle.pr_marks.proofs.marks.Marks.follow_known.Goals as goal

pub invariant_of-self : goal.invariant_of-self
invariant_of-self c =
    listed_more c.args.name.now c.self.inside.rows.entries (c.get_mut.follows.lender c.note.new.row).entries c.note.new.row c.self.inside.marked.items c.note.new.marked.items
    (written c.args.name.now c.self.inside.rows.entries (c.get_mut.follows.lender c.note.new.row).entries c.note.new.row (λ q. search (rules, ((c.get_mut.follows.holds c.note.new.row).3 (subst IsSome c.in-Some.ensures.value refl)).0 q)))
    c.self.invariant
    (c.note.ensures.listed (listed_row c.args.name.now c.self.inside.rows.entries c.self.inside.marked.items c.raise.new.self.marks c.self.invariant (c.raise.ensures.marks ∙ ap marks_in (c.in-Some.ensures.value ∙ sym (row_at c.args.name.now c.self.inside.rows.entries)))))
    c.note.ensures.stay

pub invariant_of-self-in-Some : goal.invariant_of-self-in-Some
invariant_of-self-in-Some c =
    listed_more c.args.name.now c.self.inside.rows.entries (c.get_mut.follows.lender c.note.new.row).entries c.note.new.row c.self.inside.marked.items c.note.new.marked.items
    (written c.args.name.now c.self.inside.rows.entries (c.get_mut.follows.lender c.note.new.row).entries c.note.new.row (λ q. search (rules, ((c.get_mut.follows.holds c.note.new.row).3 (subst IsSome c.in-Some.ensures.value refl)).0 q)))
    c.self.invariant
    (c.note.ensures.listed (listed_row c.args.name.now c.self.inside.rows.entries c.self.inside.marked.items c.raise.new.self.marks c.self.invariant (c.raise.ensures.marks ∙ ap marks_in (c.in-Some.ensures.value ∙ sym (row_at c.args.name.now c.self.inside.rows.entries)))))
    c.note.ensures.stay

pub returns-in_ok-note-in-Some-clause-known : goal.returns-in_ok-note-in-Some-clause-known
returns-in_ok-note-in-Some-clause-known c some =
    rw (← c.self.view_is) (marked_as _ _ _ _ _ _ (ap (λ (m : Mark). m.stamp) c.next_mark-mark.ensures)
    (is_marked _ _ c.args.name.now c.next_mark-mark.result c.args.gone c.note.new.row c.raise.new.self (Some c.in-Some.row.now) c.newest_of.result refl
    (written c.args.name.now c.self.inside.rows.entries (c.get_mut.follows.lender c.note.new.row).entries c.note.new.row (λ q. search (rules, ((c.get_mut.follows.holds c.note.new.row).3 (subst IsSome c.in-Some.ensures.value refl)).0 q)))
    (c.in-Some.ensures.value ∙ sym (row_at c.args.name.now c.self.inside.rows.entries))
    c.newest_of.ensures c.raise.ensures.newest c.raise.ensures.marks
    c.note.ensures.newest c.in_ok-note-in-Some.ensures.marks))

pub returns-in_ok-note-in-Some-clause-prev : goal.returns-in_ok-note-in-Some-clause-prev
returns-in_ok-note-in-Some-clause-prev c =
    rw (← c.self.view_is, c.next_mark-mark.ensures, c.newest.ensures) (ap (λ (k : _). option_map (λ (n : Newest). n.stamp) (option_map (λ (r : Kept). r.newest) k)) (c.in-Some.ensures.value ∙ sym (row_at c.args.name.now c.self.inside.rows.entries)))

pub returns-in-None-clause-prev : goal.returns-in-None-clause-prev
returns-in-None-clause-prev c =
    rw (← c.self.view_is) (ap (λ (k : _). option_map (λ (n : Newest). n.stamp) (option_map (λ (r : Kept). r.newest) k)) (c.in-None.ensures.value ∙ sym (row_at c.args.name.now c.self.inside.rows.entries)))

pub returns-in-None-clause-unknown : goal.returns-in-None-clause-unknown
returns-in-None-clause-unknown c = λ is. rw (← c.self.view_is, c.get_mut.follows.holds-at-none) (refl, row_at c.args.name.now c.self.inside.rows.entries ∙ sym c.in-None.ensures.value)
