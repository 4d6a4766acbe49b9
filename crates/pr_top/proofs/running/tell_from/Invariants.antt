use Rattle.std.proofs.Common.{◌≤◌, List, reverse}
use Rattle.pr_sim.specs.Making.{declared_of}
use Rattle.pr_sim.specs.Running.{Tells}
use Rattle.pr_story.specs.History.{NodeEntry}
use Rattle.pr_text.specs.Texts.{AreOfNodes}
use Rattle.pr_top.proofs.Lines.{IsSofar}
use Rattle.pr_top.proofs.running.tell_from.Given as goal

abbrev pub invariant-loop-at : goal.invariant-loop-at
invariant-loop-at g l = record {
  rises : g.K.Sink.faults l.fn.out ≤ g.K.Sink.faults l.out;
  nodes : AreOfNodes l.decls.list l.clocks;
  told : (h : List NodeEntry) → Tells (declared_of l.decls.list) h l.engine → IsSofar l.decls.list l.fn.told l.at (reverse h) (g.K.Sink.text l.fn.out) (g.K.Sink.text l.out);
}
