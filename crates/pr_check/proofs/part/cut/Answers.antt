use Rattle.std.proofs.Common.{◌∙◌, sym, arith}
use Rattle.std.specs.Prelude.{◌==◌}
use Rattle.std.proofs.lemmas.Grind.{common_steps}
use Rattle.pr_check.proofs.Cuts.{after_none, after_place, before_none, before_place}
use Rattle.pr_check.proofs.part.cut.Goals as goal

pub returns-in-Some-clause-before : goal.returns-in-Some-clause-before
returns-in-Some-clause-before c = before_place (λ x. x == c.args.byte) c.args.bytes.now c.in-Some.at (sym c.in-Some.ensures.value)

pub returns-in-Some-clause-after : goal.returns-in-Some-clause-after
returns-in-Some-clause-after c =
    let e = after_place (λ x. x == c.args.byte) c.args.bytes.now c.in-Some.at (sym c.in-Some.ensures.value) in
    grind (arith, common_steps, e)

pub returns-in-None-clause-before : goal.returns-in-None-clause-before
returns-in-None-clause-before c = before_none (λ x. x == c.args.byte) c.args.bytes.now (sym c.in-None.ensures.value)

pub returns-in-None-clause-after : goal.returns-in-None-clause-after
returns-in-None-clause-after c = c.as_slice.ensures ∙ after_none (λ x. x == c.args.byte) c.args.bytes.now (sym c.in-None.ensures.value)
