use Rattle.std.proofs.Common.{rules, ap, ◌∙◌, ◌≡◌, ◌<◌, length}
use Rattle.pr_names.specs.Bound.{bound_lt}
use Rattle.pr_names.specs.declared.bound.Bound.TheVariants.{At}
use Rattle.pr_sets.proofs.Behind.{behind_none, behind_last}
use Rattle.pr_sets.proofs.ends.is_behind.Goals as goal

pub returns-then-is_empty : goal.returns-then-is_empty
returns-then-is_empty c = let e : length c.args.parts.now ≡ 0 = search rules in behind_none c.args.parts.now c.args.part.now e

pub returns : goal.returns
returns c =
    let part = c.args.part.now in
    let last = c.index-parts-parts.result in
    let some : 0 < length c.args.parts.now = search rules in
    c.is_behind.ensures
    ∙ (ap (λ l. bound_lt l.hi (At part.lo)) c.index-parts-parts.is ∙ behind_last c.args.parts.now part last some)
