use Rattle.std.specs.Prelude.{codes}
use Rattle.pr_draw.specs.Tags.{attribute, escaped, number}
use Rattle.pr_draw.proofs.Tagging.{tag_begins, tag_element, tag_more}
use Rattle.pr_draw.proofs.shape.write_label.Goals as goal

pub returns : goal.returns
returns c =
    let begun = tag_begins c.args.out.now (codes "text") c.in_ok-extend.ensures.ok in
    let class = tag_more (attribute (codes "class") c.args.class.now) begun c.in_ok-attribute.ensures in
    let x = tag_more (number (codes "x") c.args.at.now.x) class c.in_ok-number.ensures in
    let y = tag_more (number (codes "y") c.args.at.now.y) x c.in_ok-number-2.ensures in
    tag_element c.extend-2.new.self c.escape.new.out (escaped c.args.words.now) c.extend-3.new.self c.extend-3.result y c.in_ok-extend-2.ensures.ok c.in_ok-escape.ensures c.extend-3.ensures.ok
