use Rattle.std.proofs.Common.{◌≡◌, ◌++◌}
use Rattle.pr_gen.specs.Topology.{each, forth}
use Rattle.pr_gen.proofs.topology.streams_forth.Given as goal

abbrev pub invariant-loop-i : goal.invariant-loop-i
invariant-loop-i l = l.decls.list ≡ l.fn.decls.list ++ each l.i forth
