use Rattle.std.proofs.Common.{refl}
use Rattle.pr_sets.specs.Ends.{gap}
use Rattle.pr_sets.proofs.SpanEnds.{made_list}
use Rattle.pr_sets.proofs.ends.gap.Goals as goal

pub returns-in-At : goal.returns-in-At
unfolding gap
returns-in-At c = rw c.in-At.is (made_list c.in-At.lo c.args.to c.new.result c.new.ensures.some c.new.ensures.value)

pub returns-in-End : goal.returns-in-End
unfolding gap
returns-in-End c = rw c.in-End.is refl
