use Rattle.std.proofs.Common.{ap, ◌∙◌, arith, sym, List}
use Rattle.pr_names.specs.Span.{Span}
use Rattle.pr_sets.specs.Spans.{has}
use Rattle.pr_sets.specs.Sets.{rest_of}
use Rattle.pr_gaps.proofs.Sets.{found_set, no_set}
use Rattle.pr_gaps.proofs.gaps.Gaps.set_of.Goals as goal

pub returns-then-has-clause-value : goal.returns-then-has-clause-value
returns-then-has-clause-value c =
    rw (← c.self.view_is, ← c.as_slice-sets.ensures) (found_set c.as_slice-sets.result.now (rest_of c.as_slice-sets.result.now) c.args.name.now c.loop-index.index c.index-sets-index.result (omega arith) c.loop-index.invariant (ap (λ (s : List Span). has s c.args.name.now) (sym c.index-sets-index.is) ∙ sym c.has.ensures ∙ c.if-has.true))

pub returns-clause-value : goal.returns-clause-value
returns-clause-value c =
    rw (← c.self.view_is, ← c.as_slice-sets.ensures) (no_set c.as_slice-sets.result.now (rest_of c.as_slice-sets.result.now) c.args.name.now (λ k less. c.loop-index.invariant k (omega arith)))
