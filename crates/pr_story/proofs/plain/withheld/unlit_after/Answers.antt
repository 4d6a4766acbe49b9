use Rattle.std.proofs.Common.{List, ◌∷◌, ◌∙◌, sym, subst, ap, refl}
use Rattle.pr_names.specs.Span.{Span}
use Rattle.pr_sets.specs.Spans.{has, IsSet, IsIntersection}
use Rattle.pr_inval.specs.declared.kind.Kind.TheVariants.{Precise, Imprecise}
use Rattle.pr_story.specs.declared.entry.Entry.{Entry}
use Rattle.pr_story.specs.declared.event.Event.{Event}
use Rattle.pr_story.specs.History.{Accepts}
use Rattle.pr_story.specs.Search.{IsUnlit}
use Rattle.pr_story.proofs.Withholding.{unlit_more, and_false, if_ok}
use Rattle.pr_story.proofs.plain.withheld.unlit_after.Goals as goal

pub returns-then-is_covered : goal.returns-then-is_covered
returns-then-is_covered c = λ j was.
    unlit_more c.args.entry.now j (Precise c.in-Precise.from c.in-Precise.to c.in-Precise.write) c.args.point.now c.args.dark c.empty.result
    (subst (λ (e : Event). Accepts e (Precise c.in-Precise.from c.in-Precise.to c.in-Precise.write)) (sym c.in-Accepted.is) c.in-Precise.is)
    refl (c.is_covered.ensures.0 c.if-is_covered.true)
    (subst (λ (s : List Span). IsSet s) (sym c.empty.ensures) tt)
    (λ o name. ap (λ (s : List Span). has s o) c.empty.ensures ∙ sym (and_false (has c.args.dark o)))
    was

pub returns-then-is_covered-2 : goal.returns-then-is_covered-2
returns-then-is_covered-2 c =
    if_ok c.intersect.result (IsIntersection c.args.dark c.in-Imprecise.target) (λ set. (j : List Entry) → IsUnlit j c.args.point.now c.args.dark → IsUnlit (c.args.entry.now ∷ j) c.args.point.now set)
    (λ set i j was.
    unlit_more c.args.entry.now j (Imprecise c.in-Imprecise.from c.in-Imprecise.to c.in-Imprecise.target) c.args.point.now c.args.dark set
    (subst (λ (e : Event). Accepts e (Imprecise c.in-Imprecise.from c.in-Imprecise.to c.in-Imprecise.target)) (sym c.in-Accepted.is) c.in-Imprecise.is)
    refl (c.is_covered-in-Imprecise.ensures.0 c.if-is_covered-2.true) i.set i.names was)
    c.intersect.ensures
