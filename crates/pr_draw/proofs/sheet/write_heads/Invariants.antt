use Rattle.pr_draw.specs.Tags.{Adds}
use Rattle.pr_draw.specs.Xml.{IsContent}
use Rattle.pr_draw.proofs.sheet.write_heads.Given as goal

abbrev pub invariant-loop-id : goal.invariant-loop-id
invariant-loop-id l = Adds IsContent l.fn.out l.out
