use Rattle.std.proofs.Common.{rules, [], refl, subst, sym, ap, ◌∙◌, IsSome}
use Rattle.std.specs.Option.{unwrap_or}
use Rattle.pr_bodies.specs.Bodies.{body_of, renewed}
use Rattle.pr_bodies.proofs.Rows.{found_row, renewed_row, row_by}
use Rattle.pr_bodies.proofs.bodies.Bodies.renew.Goals as goal
use Rattle.pr_bodies.proofs.bodies.Bodies.renew.Goals.{in-Some+in_ok-renew-in-Some, in-None+in_ok-renew-in-None+in_ok-insert-in-None+in-Some-1, in-None+in_ok-renew-in-None+in_ok-insert-in-None+in-None-1}

pub returns-clause-ok : goal.returns-clause-ok
returns-clause-ok c o t = elim c.match-get_mut.branch [
  | in-Some+in_ok-renew-in-Some w ↦
      rw (w.self-inside-is, ← c.begin.ensures.rows, ← c.self.view_is, ← c.in_ok-bytes.ensures.copy) (
      renewed_row c.self.inside.rows.entries (c.get_mut.follows.lender w.renew.new.self).entries c.args.name.now w.renew.new.self c.args.stamp.now c.in_ok-bytes.bytes
      (λ q. search (rules, ((c.get_mut.follows.holds w.renew.new.self).3 (subst IsSome w.in-Some.ensures.value refl)).0 q))
      (λ s. w.in_ok-renew-in-Some.ensures s ∙ ap (renewed c.args.stamp.now c.in_ok-bytes.bytes s) (sym (found_row (row_by c.self.inside.rows.entries c.args.name.now) w.in-Some.row.now s (sym w.in-Some.ensures.value))))
      o t)
  | in-None+in_ok-renew-in-None+in_ok-insert-in-None+in-Some-1 w ↦
      rw (w.self-inside-is, ← c.begin.ensures.rows, ← c.self.view_is, ← c.in_ok-bytes.ensures.copy) (
      renewed_row c.self.inside.rows.entries w.insert.new.self.entries c.args.name.now w.renew-in-None.new.self c.args.stamp.now c.in_ok-bytes.bytes
      (λ q. search (rules, w.in_ok-insert-in-None.ensures.updates.0 q))
      (λ s. w.in_ok-renew-in-None.ensures s ∙ ap (λ r. renewed c.args.stamp.now c.in_ok-bytes.bytes s (body_of r s)) w.new-row.ensures ∙ ap (λ r. renewed c.args.stamp.now c.in_ok-bytes.bytes s (body_of (unwrap_or r []) s)) w.in-None.ensures.value)
      o t)
  | in-None+in_ok-renew-in-None+in_ok-insert-in-None+in-None-1 w ↦
      rw (w.self-inside-is, ← c.begin.ensures.rows, ← c.self.view_is, ← c.in_ok-bytes.ensures.copy) (
      renewed_row c.self.inside.rows.entries w.insert.new.self.entries c.args.name.now w.renew-in-None.new.self c.args.stamp.now c.in_ok-bytes.bytes
      (λ q. search (rules, w.in_ok-insert-in-None.ensures.updates.0 q))
      (λ s. w.in_ok-renew-in-None.ensures s ∙ ap (λ r. renewed c.args.stamp.now c.in_ok-bytes.bytes s (body_of r s)) w.new-row.ensures ∙ ap (λ r. renewed c.args.stamp.now c.in_ok-bytes.bytes s (body_of (unwrap_or r []) s)) w.in-None.ensures.value)
      o t)
]
