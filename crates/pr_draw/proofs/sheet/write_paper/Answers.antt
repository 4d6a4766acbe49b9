use Rattle.std.proofs.Common.{refl}
use Rattle.std.specs.Prelude.{codes}
use Rattle.pr_draw.specs.Tags.{attribute}
use Rattle.pr_draw.proofs.Grammar.{a_text}
use Rattle.pr_draw.proofs.Tagging.{adds_empty, tag_begins, tag_more}
use Rattle.pr_draw.proofs.sheet.write_paper.Goals as goal

pub returns : goal.returns
returns c =
    let all = codes "100%" in
    let white = codes "#fff" in
    let begun = tag_begins c.args.out.now (codes "rect") c.in_ok-extend.ensures.ok in
    let width = tag_more (attribute (codes "width") all) begun c.in_ok-attribute.ensures in
    let height = tag_more (attribute (codes "height") all) width c.in_ok-attribute-2.ensures in
    let fill = tag_more (attribute (codes "fill") white) height c.in_ok-attribute-3.ensures in
    adds_empty c.extend-2.new.self c.extend-2.result
    (record { named = refl; distinct = (refl, a_text all, refl, (refl, a_text all, refl, (refl, a_text white, refl, tt))) })
    fill c.extend-2.ensures.ok
