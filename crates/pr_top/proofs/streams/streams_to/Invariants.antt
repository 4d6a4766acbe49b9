use Rattle.pr_top.proofs.StreamLists.{IsListing}
use Rattle.pr_top.proofs.streams.streams_to.Given as goal

abbrev pub invariant-loop-decl : goal.invariant-loop-decl
invariant-loop-decl l = IsListing l.decls l.node l.decl-index l.number l.list
