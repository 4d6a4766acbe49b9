use Rattle.std.proofs.Common.{rules}
use Rattle.pr_bodies.proofs.Rows.{dropped}
use Rattle.pr_bodies.proofs.bodies.Bodies.drop_all.Goals as goal

pub returns-clause-dropped : goal.returns-clause-dropped
returns-clause-dropped c o t = rw (← c.self.view_is) (dropped c.self.inside.rows.entries c.remove.new.self.entries c.args.name.now (λ q. search (rules, c.remove.ensures.updates.0 q)) o t)
