use Rattle.std.proofs.Common.{◌≤◌, drop}
use Rattle.pr_top.specs.Pulled.{entries_at}
use Rattle.pr_top.proofs.Lines.{IsSofar}
use Rattle.pr_top.proofs.pulling.tell_entries.Given as goal

abbrev pub invariant-loop-at : goal.invariant-loop-at
invariant-loop-at g l = record {
  rises : g.K.Sink.faults l.fn.out ≤ g.K.Sink.faults l.out;
  told : IsSofar l.decls.list 0 l.at (entries_at l.node (drop l.from l.journal.items)) (g.K.Sink.text l.fn.out) (g.K.Sink.text l.out);
}
