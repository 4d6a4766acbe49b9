use Rattle.std.proofs.Common.{List, sym, subst}
use Rattle.pr_names.specs.Span.{Span}
use Rattle.pr_sets.specs.Sets.{AreApart}
use Rattle.pr_script.specs.declared.decl.Decl.{Decl}
use Rattle.pr_sim.specs.Making.{HasRoom}
use Rattle.pr_sim.proofs.engine.Engine.declare.Goals as goal

pub add_node-requires-clause-apart : goal.add_node-requires-clause-apart
add_node-requires-clause-apart c =
    let room = subst (λ (d : Decl). HasRoom c.args.self.now d) c.in-Node.is c.requires.room in
    subst (λ (sets : List (List Span)). AreApart sets) (sym c.as_slice.ensures) room.1
