use Rattle.std.proofs.Common.{refl}
use Rattle.pr_draw.proofs.Grammar.{adds_more, adds_none}
use Rattle.pr_draw.proofs.sheet.write_symbols.Goals as goal

pub loop-symbol-init : goal.loop-symbol-init
loop-symbol-init c = adds_none c.args.out.now c.args.out.now refl

pub loop-symbol-preserved : goal.loop-symbol-preserved
loop-symbol-preserved c = adds_more c.args.out.now c.loop-symbol.out c.write_symbol.new.out c.loop-symbol.invariant c.in_ok-write_symbol.ensures
