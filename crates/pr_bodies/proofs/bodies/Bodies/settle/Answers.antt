use Rattle.std.proofs.Common.{rules, None, cond, refl, subst, sym, ap, ◌∙◌, IsSome}
use Rattle.pr_stamps.specs.Point.{is_before}
use Rattle.pr_bodies.proofs.Rows.{absent, changed, found_row, row_by}
use Rattle.pr_bodies.proofs.bodies.Bodies.settle.Goals as goal
use Rattle.pr_bodies.proofs.bodies.Bodies.settle.Goals.{in-Some, in_default}

pub returns-clause-settled : goal.returns-clause-settled
returns-clause-settled c o t = elim c.match-get_mut.branch [
  | in-Some w ↦
      rw (w.self-inside-is, ← c.self.view_is) (
      changed c.self.inside.rows.entries (c.get_mut.follows.lender w.settle.new.self).entries c.args.name.now w.settle.new.self (λ s. is_before s c.args.stamp.now) None
      (λ q. search (rules, ((c.get_mut.follows.holds w.settle.new.self).3 (subst IsSome w.in-Some.ensures.value refl)).0 q))
      (λ s. w.settle.ensures s ∙ ap (cond (is_before s c.args.stamp.now) None) (sym (found_row (row_by c.self.inside.rows.entries c.args.name.now) w.in-Some.row.now s (sym w.in-Some.ensures.value))))
      o t)
  | in_default w ↦
      rw (w.self-inside-is, ← c.self.view_is, c.get_mut.follows.holds-at-none) (
      absent c.self.inside.rows.entries c.args.name.now (λ s. is_before s c.args.stamp.now) (sym w.in_default.ensures.value) o t)
]
