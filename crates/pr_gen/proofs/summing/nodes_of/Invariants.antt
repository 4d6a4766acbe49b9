use Rattle.std.specs.Prelude.{◌≡◌, ◌≤◌, take}
use Rattle.pr_gen.specs.Summary.{node_count}
use Rattle.pr_gen.proofs.summing.nodes_of.Given as goal

abbrev pub invariant-loop-decl : goal.invariant-loop-decl
invariant-loop-decl l = record {
  counted : l.nodes ≡ node_count (take l.decl-index l.decls);
  few : l.nodes ≤ l.decl-index;
}
