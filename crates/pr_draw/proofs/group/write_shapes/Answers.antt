use Rattle.std.proofs.Common.{refl}
use Rattle.pr_draw.proofs.Grammar.{adds_more, adds_none}
use Rattle.pr_draw.proofs.group.write_shapes.Goals as goal

pub loop-shape-init : goal.loop-shape-init
loop-shape-init c = adds_none c.args.out.now c.args.out.now refl

pub loop-shape-preserved : goal.loop-shape-preserved
loop-shape-preserved c = adds_more c.args.out.now c.loop-shape.out c.write.new.out c.loop-shape.invariant c.in_ok-write.ensures
