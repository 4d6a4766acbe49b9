use Rattle.std.proofs.Common.{◌≤◌, ◌-◌, length}
use Rattle.pr_crew.proofs.phasing.count_nodes.Given as goal

abbrev pub invariant-loop-count : goal.invariant-loop-count
invariant-loop-count g l = l.count ≤ length (g.H.Held.state l.held).nodes

abbrev pub decreases-loop-count : goal.decreases-loop-count
decreases-loop-count g l = 32 - l.count
