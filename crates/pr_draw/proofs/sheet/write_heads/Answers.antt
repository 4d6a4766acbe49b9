use Rattle.std.proofs.Common.{refl}
use Rattle.pr_draw.proofs.Grammar.{adds_more, adds_none}
use Rattle.pr_draw.proofs.sheet.write_heads.Goals as goal

pub loop-id-init : goal.loop-id-init
loop-id-init c = adds_none c.args.out.now c.args.out.now refl

pub loop-id-preserved : goal.loop-id-preserved
loop-id-preserved c = adds_more c.args.out.now c.loop-id.out c.write_head.new.out c.loop-id.invariant c.in_ok-write_head.ensures
