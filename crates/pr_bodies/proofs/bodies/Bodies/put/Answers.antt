use Rattle.std.proofs.Common.{rules, Some, cond, ◌≡◌, ◌∙◌}
use Rattle.std.specs.Option.{unwrap_or}
use Rattle.pr_stamps.specs.Point.{is_same}
use Rattle.pr_bodies.specs.Bodies.{body_of, row_of}
use Rattle.pr_bodies.proofs.Rows.{changed}
use Rattle.pr_bodies.proofs.bodies.Bodies.put.Goals as goal

pub returns-clause-ok : goal.returns-clause-ok
returns-clause-ok c o t =
    let row : c.or_insert-row.result.now ≡ row_of c.self.inside.rows.entries c.args.name.now = c.or_insert-row.ensures.value ∙ (λ i. unwrap_or (c.in_ok-self-inside.ensures.value i) (c.new.ensures i)) in
    rw (← c.begin.ensures.rows, ← c.self.view_is) (
    changed c.self.inside.rows.entries _ c.args.name.now c.put.new.self (is_same c.args.stamp.now) (Some c.args.bytes.now)
    (λ q. search (rules, (c.in_ok-self-inside.ensures.update.0 c.put.new.self).0 q))
    (λ s. c.in_ok-put.ensures s ∙ (λ i. cond (is_same c.args.stamp.now s) (Some (c.in_ok-bytes.ensures.copy i)) (body_of (row i) s)))
    o t)
