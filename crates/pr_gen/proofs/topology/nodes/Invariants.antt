use Rattle.std.proofs.Common.{◌≡◌, ◌++◌}
use Rattle.pr_gen.specs.Topology.{each, node}
use Rattle.pr_gen.proofs.topology.nodes.Given as goal

abbrev pub invariant-loop-i : goal.invariant-loop-i
invariant-loop-i l = l.decls.list ≡ l.fn.decls.list ++ each l.i node
