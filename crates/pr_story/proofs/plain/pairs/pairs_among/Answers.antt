use Rattle.pr_story.specs.Marking.{pairs_of}
use Rattle.pr_story.proofs.Marking.{conflicts_are, pairs_more, pairs_whole}
use Rattle.pr_story.proofs.plain.pairs.pairs_among.Goals as goal

pub loop-earlier-preserved : goal.loop-earlier-preserved
loop-earlier-preserved c =
    pairs_more c.args.marks.now c.loop-earlier.earlier-index c.earlier-item.result c.loop-earlier.pairs c.add_pairs.new.pairs (pairs_of c.args.marks.now c.args.marks.now)
    c.loop-earlier-test.true c.earlier-item.is c.in_ok-add_pairs.ensures c.loop-earlier.invariant

pub returns : goal.returns
returns c =
    conflicts_are c.args.marks.now c.loop-earlier.pairs
    (pairs_whole c.args.marks.now c.loop-earlier.earlier-index c.loop-earlier.pairs (pairs_of c.args.marks.now c.args.marks.now) c.loop-earlier-test.false c.loop-earlier.invariant)
    c.requires
