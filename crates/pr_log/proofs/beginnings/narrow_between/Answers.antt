use Rattle.std.proofs.Common.{arith, ap, sym, subst, ◌∙◌, ◌+◌, inl, inr, not, ◌||◌}
use Rattle.std.specs.Option.{IsSome}
use Rattle.pr_sets.specs.Spans.{has}
use Rattle.pr_log.specs.Sets.{begins_at, lacks}
use Rattle.pr_log.proofs.Standing.{narrowed_within, narrowed_above, same_up_to}
use Rattle.pr_log.proofs.beginnings.narrow_between.Goals as goal

pub returns-clause-within : goal.returns-clause-within
returns-clause-within c o k name le within =
    c.join.ensures o k name
    ∙ narrowed_within (begins_at c.split-2.new.sets.entries) (begins_at c.narrow.new.sets.entries) c.args.lo c.args.hi c.args.target.now o name c.requires.some
    (subst IsSome (sym (c.in_ok-split-2.ensures.others c.args.lo (λ e. omega (arith, e, c.requires.order)))) c.in_ok-split.ensures.here)
    c.in_ok-narrow.ensures.within k le within
    ∙ ap (λ b. b || not (has c.args.target.now o)) (c.in_ok-split-2.ensures.lit o k name ∙ c.in_ok-split.ensures.lit o k name)

pub returns-clause-others : goal.returns-clause-others
returns-clause-others c o k name (inl below) =
    c.join.ensures o k name
    ∙ ap (λ x. lacks x o) (same_up_to (begins_at c.split-2.new.sets.entries) (begins_at c.narrow.new.sets.entries) k (λ q le. c.in_ok-narrow.ensures.others q (inl (omega (arith, le, below)))))
    ∙ c.in_ok-split-2.ensures.lit o k name ∙ c.in_ok-split.ensures.lit o k name
returns-clause-others c o k name (inr above) =
    c.join.ensures o k name
    ∙ ap (λ x. lacks x o) (narrowed_above (begins_at c.split-2.new.sets.entries) (begins_at c.narrow.new.sets.entries) (c.args.hi + 1) c.in_ok-split-2.ensures.here (λ q le. c.in_ok-narrow.ensures.others q (inr (omega (arith, le)))) k (omega (arith, above)))
    ∙ c.in_ok-split-2.ensures.lit o k name ∙ c.in_ok-split.ensures.lit o k name
