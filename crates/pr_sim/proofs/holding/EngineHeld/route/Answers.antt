use Rattle.std.proofs.Common.{◌<◌, ◌∙◌, ℕ, length, sym, ap, subst}
use Rattle.pr_sim.specs.declared.engine.Route.{Route}
use Rattle.pr_sim.proofs.holding.EngineHeld.route.Goals as goal

pub returns : goal.returns
returns c d h k =
    let s = c.args.stream in
    let known = subst (λ (n : ℕ). s < n) (sym k.many) c.requires.0 in
    let at = c.route-ends.ensures c.route-ends.result in (
      ap (λ (r : Route). r.source) at ∙ k.routes.source s c.route-ends.result known,
      ap (λ (r : Route). r.destination) at ∙ k.routes.destination s c.route-ends.result known,
      subst (λ (n : ℕ). n < length c.args.self.now.nodes.items) (sym (ap (λ (r : Route). r.source) at)) (k.routes.from s c.route-ends.result known),
      subst (λ (n : ℕ). n < length c.args.self.now.nodes.items) (sym (ap (λ (r : Route). r.destination) at)) (k.routes.to s c.route-ends.result known),
    )
