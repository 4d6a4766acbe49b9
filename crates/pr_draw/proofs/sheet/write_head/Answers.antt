use Rattle.std.proofs.Common.{refl}
use Rattle.std.specs.Prelude.{codes, decimal}
use Rattle.pr_draw.specs.Tags.{attribute, number}
use Rattle.pr_draw.proofs.Grammar.{a_text}
use Rattle.pr_draw.proofs.Tagging.{adds_element, tag_begins, tag_more}
use Rattle.pr_draw.proofs.sheet.write_head.Goals as goal

pub returns : goal.returns
returns c =
    let id = c.args.id.now in
    let size = decimal c.args.size in
    let begun = tag_begins c.args.out.now (codes "marker") c.in_ok-extend.ensures.ok in
    let named = tag_more (attribute (codes "id") id) begun c.in_ok-attribute.ensures in
    let viewed = tag_more (attribute (codes "viewBox") (codes "0 0 10 10")) named c.in_ok-attribute-2.ensures in
    let right = tag_more (attribute (codes "refX") (codes "9")) viewed c.in_ok-attribute-3.ensures in
    let down = tag_more (attribute (codes "refY") (codes "5")) right c.in_ok-attribute-4.ensures in
    let width = tag_more (number (codes "markerWidth") c.args.size) down c.in_ok-number.ensures in
    let height = tag_more (number (codes "markerHeight") c.args.size) width c.in_ok-number-2.ensures in
    let units = tag_more (attribute (codes "markerUnits") (codes "userSpaceOnUse")) height c.in_ok-attribute-5.ensures in
    let turned = tag_more (attribute (codes "orient") (codes "auto")) units c.in_ok-attribute-6.ensures in
    let point = c.in_ok-write_point.ensures in
    adds_element c.push.new.self c.write_point.new.out point.0 c.extend-2.new.self c.extend-2.result
    (record {
      named = refl;
      distinct = (
        refl,
        a_text id,
        refl,
        (
          refl,
          a_text (codes "0 0 10 10"),
          refl,
          (
            refl,
            a_text (codes "9"),
            refl,
            (
              refl,
              a_text (codes "5"),
              refl,
              (refl, a_text size, refl, (refl, a_text size, refl, (refl, a_text (codes "userSpaceOnUse"), refl, (refl, a_text (codes "auto"), refl, tt)))),
            ),
          ),
        ),
      );
    })
    point.1 turned c.in_ok-push.ensures.ok point.2 c.extend-2.ensures.ok
