use Rattle.std.proofs.Common.{[], ◌∷◌, refl}
use Rattle.std.specs.Prelude.{codes, decimal}
use Rattle.pr_draw.specs.Pictures.{svg_space}
use Rattle.pr_draw.specs.Tags.{attribute, number}
use Rattle.pr_draw.proofs.Grammar.{a_text}
use Rattle.pr_draw.proofs.Tagging.{opens, tag_begins, tag_more}
use Rattle.pr_draw.proofs.sheet.write_opening.Goals as goal

pub returns : goal.returns
returns c =
    let width = c.width-width.result in
    let height = c.height-height.result in
    let view = c.as_slice.result.now in
    let begun = tag_begins c.args.out.now (codes "svg") c.in_ok-extend.ensures.ok in
    let spaced = tag_more svg_space begun c.in_ok-attribute.ensures in
    let wide = tag_more (number (codes "width") width) spaced c.in_ok-number.ensures in
    let high = tag_more (number (codes "height") height) wide c.in_ok-number-2.ensures in
    let viewed = tag_more (attribute (codes "viewBox") view) high c.in_ok-attribute-2.ensures in
    opens c.args.out.now c.attribute-2.new.out c.push.new.self (number (codes "width") width ∷ number (codes "height") height ∷ attribute (codes "viewBox") view ∷ []) c.push.result
    (record { named = refl; distinct = (refl, a_text (codes "http://www.w3.org/2000/svg"), refl, (refl, a_text (decimal width), refl, (refl, a_text (decimal height), refl, (refl, a_text view, refl, tt)))) })
    viewed c.push.ensures.ok
