use Rattle.pr_node.specs.Stored.{means}
use Rattle.pr_top.proofs.KindLists.{IsAsking}
use Rattle.pr_top.proofs.asker.Asker.asks.Given as goal

abbrev pub invariant-loop-decl : goal.invariant-loop-decl
invariant-loop-decl l = IsAsking l.decls (means l.self.node.now).sets l.self.number (means l.self.node.now).journal l.decl-index l.number l.text
