use Rattle.std.proofs.Common.{◌≡◌, length}
use Rattle.pr_script.specs.Sets.{are_apart}
use Rattle.pr_script.proofs.sets.apart.Given as goal

abbrev pub invariant-loop-rest : goal.invariant-loop-rest
invariant-loop-rest l = are_apart l.rest ≡ are_apart l.sets

abbrev pub decreases-loop-rest : goal.decreases-loop-rest
decreases-loop-rest l = length l.rest
