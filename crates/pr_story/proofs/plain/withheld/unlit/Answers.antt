use Rattle.std.proofs.Common.{List, ◌∙◌, ap, take, reverse}
use Rattle.std.specs.Prelude.{not}
use Rattle.pr_names.specs.Span.{Span}
use Rattle.pr_sets.specs.Spans.{has, IsComplement}
use Rattle.pr_story.specs.Search.{IsUnlit}
use Rattle.pr_story.proofs.NewestFirst.{with_more, with_all}
use Rattle.pr_story.proofs.Withholding.{unlit_none}
use Rattle.pr_story.proofs.plain.withheld.unlit.Goals as goal

pub loop-entry-init : goal.loop-entry-init
loop-entry-init c =
    let i : IsComplement c.empty.result c.in_ok-dark.dark = c.in_ok-dark.ensures in
    unlit_none c.args.point.now c.in_ok-dark.dark i.set (λ o name. i.names o name ∙ ap (λ (s : List Span). not (has s o)) c.empty.ensures)

pub loop-entry-preserved : goal.loop-entry-preserved
loop-entry-preserved c =
    with_more (λ h. IsUnlit h c.args.point.now c.in_ok-dark-2.dark) _ _ c.entry-item.result c.loop-entry-test.true c.entry-item.is
    (c.in_ok-dark-2.ensures (reverse (take c.loop-entry.entry-index c.args.entries.now)) c.loop-entry.invariant)

pub returns : goal.returns
returns c = with_all (λ h. IsUnlit h c.args.point.now c.loop-entry.dark) _ _ c.loop-entry-test.false c.loop-entry.invariant
