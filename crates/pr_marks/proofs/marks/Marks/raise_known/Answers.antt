use Rattle.std.proofs.Common.{Some, rules, refl, subst, sym, ap, ◌∙◌, IsSome}
use Rattle.pr_marks.specs.Table.{marks_in}
use Rattle.pr_marks.proofs.Listed.{listed_more, listed_row}
use Rattle.pr_marks.proofs.Rows.{is_raised, row_at, written}
use Rattle.pr_marks.proofs.marks.Marks.raise_known.Goals as goal
use Rattle.pr_marks.proofs.marks.Marks.raise_known.Goals.{in-Some, in-None}

pub returns-clause-known : goal.returns-clause-known
returns-clause-known c = elim c.match-get_mut.branch [
  | in-Some w ↦ λ is.
      rw (w.self-inside-is, ← c.self.view_is) (is_raised _ _ c.args.name.now c.args.newest.now w.raise.new.self (Some w.in-Some.row.now) refl
      (written c.args.name.now c.self.inside.rows.entries (c.get_mut.follows.lender w.raise.new.self).entries w.raise.new.self (λ q. search (rules, ((c.get_mut.follows.holds w.raise.new.self).3 (subst IsSome w.in-Some.ensures.value refl)).0 q)))
      (w.in-Some.ensures.value ∙ sym (row_at c.args.name.now c.self.inside.rows.entries))
      w.raise.ensures.newest w.raise.ensures.marks)
  | in-None w ↦ λ is. search rules
]

pub returns-clause-unknown : goal.returns-clause-unknown
returns-clause-unknown c = elim c.match-get_mut.branch [
  | in-Some w ↦ λ is. search rules
  | in-None w ↦ λ is. rw (w.self-inside-is, ← c.self.view_is, c.get_mut.follows.holds-at-none) (refl, row_at c.args.name.now c.self.inside.rows.entries ∙ sym w.in-None.ensures.value)
]

pub invariant_of-self : goal.invariant_of-self
invariant_of-self c = elim c.match-get_mut.branch [
  | in-Some w ↦ rw (w.self-inside-is)
      (listed_more c.args.name.now c.self.inside.rows.entries (c.get_mut.follows.lender w.raise.new.self).entries w.raise.new.self c.self.inside.marked.items c.self.inside.marked.items
      (written c.args.name.now c.self.inside.rows.entries (c.get_mut.follows.lender w.raise.new.self).entries w.raise.new.self (λ q. search (rules, ((c.get_mut.follows.holds w.raise.new.self).3 (subst IsSome w.in-Some.ensures.value refl)).0 q)))
      c.self.invariant
      (listed_row c.args.name.now c.self.inside.rows.entries c.self.inside.marked.items w.raise.new.self.marks c.self.invariant (w.raise.ensures.marks ∙ ap marks_in (w.in-Some.ensures.value ∙ sym (row_at c.args.name.now c.self.inside.rows.entries))))
      (λ o h. h))
  | in-None w ↦ rw (w.self-inside-is, c.get_mut.follows.holds-at-none) c.self.invariant
]
