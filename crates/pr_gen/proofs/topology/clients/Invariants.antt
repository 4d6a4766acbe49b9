use Rattle.std.proofs.Common.{◌≡◌, ◌++◌}
use Rattle.pr_gen.specs.Topology.{each, client}
use Rattle.pr_gen.proofs.topology.clients.Given as goal

abbrev pub invariant-loop-i : goal.invariant-loop-i
invariant-loop-i l = l.decls.list ≡ l.fn.decls.list ++ each l.i client
