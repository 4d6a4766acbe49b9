use Rattle.std.proofs.Common.{ℕ, get_or, subst, ◌∙◌, arith, ◌≡◌}
use Rattle.std.proofs.lemmas.List.{get_or_default}
use Rattle.pr_gaps.specs.Ranges.{HasClock, Run, no_clocks}
use Rattle.pr_gaps.proofs.row.Row.run.Goals as goal

pub returns-clause-within : goal.returns-clause-within
returns-clause-within c k one most =
    let at : c.index.result.now ≡ get_or c.self.inside.clocks.items c.args.node no_clocks = c.index.ensures ∙ get_or_default c.self.inside.clocks.items c.args.node c.index.result.now no_clocks (omega (arith, c.self.invariant)) in
    rw (← c.self.view_is) (subst (λ (l : Run). HasClock l k) at (c.run.ensures.within k one most))
