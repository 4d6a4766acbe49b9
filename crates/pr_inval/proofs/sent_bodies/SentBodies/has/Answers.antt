use Rattle.std.proofs.Common.{ap, ◌∙◌}
use Rattle.pr_stamps.specs.Point.{Point}
use Rattle.pr_inval.specs.Standing.{was_sent}
use Rattle.pr_inval.proofs.Bodies.{found}
use Rattle.pr_inval.proofs.sent_bodies.SentBodies.has.Goals as goal

pub returns : goal.returns
returns c =
    let p : Point = c.args.stamp.now in
    (rw c.of.ensures at c.contains.ensures)
    ∙ found c.self.inside.bodies.keys (record { name = c.args.name.now; clock = p.clock; node = p.node })
    ∙ ap (λ v. was_sent v.items c.args.name.now p) c.self.view_is
