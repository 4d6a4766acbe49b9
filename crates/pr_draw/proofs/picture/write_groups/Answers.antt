use Rattle.pr_draw.proofs.LineByLine.{come_more}
use Rattle.pr_draw.proofs.picture.write_groups.Goals as goal

pub loop-line-preserved : goal.loop-line-preserved
loop-line-preserved c =
    come_more c.args.text.now c.loop-line.rest.now c.args.out.now c.loop-line.out c.in-Some.line.now c.in-Some.more.now c.write_group.new.out c.loop-line.invariant c.in-Some.ensures c.in_ok-write_group.ensures
