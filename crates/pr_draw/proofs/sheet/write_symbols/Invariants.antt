use Rattle.pr_draw.specs.Tags.{Adds}
use Rattle.pr_draw.specs.Xml.{IsContent}
use Rattle.pr_draw.proofs.sheet.write_symbols.Given as goal

abbrev pub invariant-loop-symbol : goal.invariant-loop-symbol
invariant-loop-symbol l = Adds IsContent l.fn.out l.out
