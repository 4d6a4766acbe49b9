use Rattle.pr_node.proofs.Starts.{IsStartBelow}
use Rattle.pr_node.proofs.starting.start.Given as goal

abbrev pub invariant-loop-index : goal.invariant-loop-index
invariant-loop-index l = IsStartBelow l.gaps l.names l.index l.start
