use Rattle.std.proofs.Common.{◌≤◌}
use Rattle.pr_top.specs.Resuming.{unplaced}
use Rattle.pr_top.proofs.Lines.{IsSofar}
use Rattle.pr_top.proofs.reopening.tell_placed.Given as goal

abbrev pub invariant-loop-node : goal.invariant-loop-node
invariant-loop-node g l = record {
  rises : g.K.Sink.faults l.fn.out ≤ g.K.Sink.faults l.out;
  told : IsSofar l.decls.list 0 l.node-index (unplaced l.entries) (g.K.Sink.text l.fn.out) (g.K.Sink.text l.out);
}
