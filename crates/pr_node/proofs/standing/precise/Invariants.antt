use Rattle.pr_node.proofs.States.{AreSoFar}
use Rattle.pr_node.proofs.standing.precise.Given as goal

abbrev pub invariant-loop-index : goal.invariant-loop-index
invariant-loop-index l = AreSoFar l.fn.gaps l.index l.precise
