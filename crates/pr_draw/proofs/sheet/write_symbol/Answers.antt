use Rattle.std.proofs.Common.{refl}
use Rattle.std.specs.Prelude.{codes}
use Rattle.pr_draw.specs.Tags.{attribute}
use Rattle.pr_draw.proofs.Grammar.{a_text}
use Rattle.pr_draw.proofs.Tagging.{adds_empty, tag_begins, tag_more}
use Rattle.pr_draw.proofs.sheet.write_symbol.Goals as goal

pub returns : goal.returns
returns c =
    let id = c.id_of.result.now in
    let outline = c.outline.result.now in
    let begun = tag_begins c.args.out.now (codes "path") c.in_ok-extend.ensures.ok in
    let named = tag_more (attribute (codes "id") id) begun c.in_ok-attribute.ensures in
    let drawn = tag_more (attribute (codes "d") outline) named c.in_ok-attribute-2.ensures in
    adds_empty c.extend-2.new.self c.extend-2.result
    (record { named = refl; distinct = (refl, a_text id, refl, (refl, a_text outline, refl, tt)) })
    drawn c.extend-2.ensures.ok
