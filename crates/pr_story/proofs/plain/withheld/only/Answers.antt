use Rattle.std.proofs.Common.{◌≡◌, List, ◌∷◌, [], sym, subst}
use Rattle.pr_names.specs.Span.{Span}
use Rattle.pr_sets.specs.Spans.{IsSetOf}
use Rattle.pr_story.proofs.Withholding.{only_set, itself_under, if_ok}
use Rattle.pr_story.proofs.plain.withheld.only.Goals as goal

pub returns-in-Some : goal.returns-in-Some
returns-in-Some c =
    if_ok c.of.result (λ set. set ≡ c.in-Some.part ∷ []) (λ set. IsSetOf set (λ o. o ≡ c.args.name.now))
    (λ set e. subst (λ (s : List Span). IsSetOf s (λ o. o ≡ c.args.name.now)) (sym e) (only_set c.args.name.now c.after.result c.in-Some.part c.bytes.ensures.name c.after.ensures.bound c.after.ensures.least c.in-Some.ensures.value))
    c.of.ensures

pub returns-in-None : goal.returns-in-None
returns-in-None c = absurd (let t = itself_under c.args.name.now c.after.result c.bytes.ensures.name c.after.ensures.least in let f = c.in-None.ensures.some in cc)
