use Rattle.std.proofs.Common.{length}
use Rattle.pr_draw.proofs.LineByLine.{HasCome}
use Rattle.pr_draw.proofs.picture.write_groups.Given as goal

abbrev pub invariant-loop-line : goal.invariant-loop-line
invariant-loop-line l = HasCome l.fn.text l.rest l.fn.out l.out

abbrev pub decreases-loop-line : goal.decreases-loop-line
decreases-loop-line l = length l.rest
