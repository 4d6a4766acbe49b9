use Rattle.std.specs.Prelude.{codes}
use Rattle.pr_draw.specs.Tags.{number, words}
use Rattle.pr_draw.proofs.Tagging.{tag_begins, tag_empty, tag_more}
use Rattle.pr_draw.proofs.shape.write_line.Goals as goal

pub returns : goal.returns
returns c =
    let from = c.args.from.now in
    let to = c.args.to.now in
    let begun = tag_begins c.args.out.now (codes "line") c.in_ok-extend.ensures.ok in
    let class = tag_more (words (codes "class") c.args.stroke.now c.args.way.now) begun c.in_ok-two_words.ensures in
    let x1 = tag_more (number (codes "x1") from.x) class c.in_ok-number.ensures in
    let y1 = tag_more (number (codes "y1") from.y) x1 c.in_ok-number-2.ensures in
    let x2 = tag_more (number (codes "x2") to.x) y1 c.in_ok-number-3.ensures in
    let y2 = tag_more (number (codes "y2") to.y) x2 c.in_ok-number-4.ensures in
    tag_empty c.extend-2.new.self c.extend-2.result y2 c.extend-2.ensures.ok
