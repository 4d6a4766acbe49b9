use Rattle.std.proofs.Common.{ℕ, List, rules, refl, sym, ◌∙◌, ap, subst, IsSome}
use Rattle.std.specs.BTreeMap.{BTreeMap}
use Rattle.pr_marks.specs.Row.{Kept}
use Rattle.pr_marks.proofs.Listed.{absent_none, none_forgets, row_forgets, row_none}
use Rattle.pr_marks.proofs.Rows.{row_at, written}
use Rattle.pr_marks.proofs.marked.forget_of.Goals as goal

pub returns-in-Some-clause-forgets : goal.returns-in-Some-clause-forgets
returns-in-Some-clause-forgets c =
    row_forgets c.args.floor.now c.args.name.now c.args.rows.now.entries (c.get_mut.follows.lender c.forget.new.self).entries c.in-Some.row.now c.forget.new.self
    (row_at c.args.name.now c.args.rows.now.entries ∙ sym c.in-Some.ensures.value)
    (written c.args.name.now c.args.rows.now.entries (c.get_mut.follows.lender c.forget.new.self).entries c.forget.new.self (λ q. search (rules, ((c.get_mut.follows.holds c.forget.new.self).3 (subst IsSome c.in-Some.ensures.value refl)).0 q)))
    c.forget.ensures.newest c.forget.ensures.marks

pub returns-in-Some-clause-none : goal.returns-in-Some-clause-none
returns-in-Some-clause-none c =
    row_none c.args.name.now c.args.rows.now.entries (c.get_mut.follows.lender c.forget.new.self).entries c.forget.new.self c.has_marks.result
    (written c.args.name.now c.args.rows.now.entries (c.get_mut.follows.lender c.forget.new.self).entries c.forget.new.self (λ q. search (rules, ((c.get_mut.follows.holds c.forget.new.self).3 (subst IsSome c.in-Some.ensures.value refl)).0 q)))
    c.has_marks.ensures

pub returns-in-None-clause-forgets : goal.returns-in-None-clause-forgets
returns-in-None-clause-forgets c =
    none_forgets c.args.floor.now c.args.name.now c.args.rows.now.entries _
    (row_at c.args.name.now c.args.rows.now.entries ∙ sym c.in-None.ensures.value)
    (ap (λ (m : BTreeMap (List ℕ) Kept). m.entries) c.get_mut.follows.holds-at-none)

pub returns-in-None-clause-none : goal.returns-in-None-clause-none
returns-in-None-clause-none c = λ is.
    absent_none c.args.name.now c.args.rows.now.entries _
    (row_at c.args.name.now c.args.rows.now.entries ∙ sym c.in-None.ensures.value)
    (ap (λ (m : BTreeMap (List ℕ) Kept). m.entries) c.get_mut.follows.holds-at-none)
