use Rattle.std.proofs.Common.{◌≤◌, ◌-◌, length}
use Rattle.pr_story.specs.Scripts.{JobAfterJob}
use Rattle.pr_text.specs.Texts.{AreOfNodes}
use Rattle.pr_top.specs.Downs.{TellsTrueDowns}
use Rattle.pr_top.specs.Runs.{all_sound}
use Rattle.pr_top.proofs.Runs.{IsUnderWay}
use Rattle.pr_top.proofs.running.commands.Given as goal

abbrev pub invariant-loop-at : goal.invariant-loop-at
invariant-loop-at g l = record {
  rises : g.K.Sink.faults l.fn.out ≤ g.K.Sink.faults l.out;
  nodes : AreOfNodes l.script.decls.list l.clocks;
  within : l.at ≤ length l.list;
  downs : TellsTrueDowns all_sound l.script l.run.engine;
  held : IsUnderWay JobAfterJob all_sound l.script l.at l.told l.run.engine l.run.unmet (g.K.Sink.text l.fn.out) (g.K.Sink.text l.out);
}

abbrev pub decreases-loop-at : goal.decreases-loop-at
decreases-loop-at g l = length l.list - l.at
