use Rattle.std.proofs.Common.{ap, ◌∙◌}
use Rattle.pr_inval.specs.Standing.{was_sent}
use Rattle.pr_inval.proofs.Bodies.{all_reordered}
use Rattle.pr_inval.proofs.sent_bodies.SentBodies.reserve.Goals as goal

pub returns-clause-same : goal.returns-clause-same
returns-clause-same c =
    all_reordered c.self.inside.bodies.keys c.reserve.new.self.keys c.in_ok-reserve.ensures.keys.0
    ∙ ap (λ v. was_sent v.items) c.self.view_is
