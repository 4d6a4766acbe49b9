use Rattle.std.proofs.Common.{◌≤◌, ◌-◌, length, reverse}
use Rattle.pr_story.specs.Scripts.{JobAfterJob}
use Rattle.pr_text.specs.Texts.{AreOfNodes}
use Rattle.pr_top.specs.Downs.{TellsTrueDowns}
use Rattle.pr_top.specs.Runs.{all_sound}
use Rattle.pr_top.specs.Kept.{KeepsOn, placed}
use Rattle.pr_top.proofs.Runs.{IsUnderWay}
use Rattle.pr_top.proofs.keeping.commands.Given as goal

-- the commands before this place were run, and all that they made was kept and told
abbrev pub invariant-loop-at : goal.invariant-loop-at
invariant-loop-at g l = record {
  rises : g.K.Sink.faults l.fn.out ≤ g.K.Sink.faults l.out;
  nodes : AreOfNodes l.script.decls.list l.clocks;
  within : l.at ≤ length l.list;
  downs : TellsTrueDowns all_sound l.script l.run.engine;
  held : (w : IsUnderWay JobAfterJob all_sound l.script l.at l.told l.run.engine l.run.unmet (g.K.Sink.text l.fn.out) (g.K.Sink.text l.out))
      × KeepsOn g.D.Disk.state g.D.Disk.images g.D.Disk.moment g.D.Disk.images_since l.fn.keep l.keep (placed (reverse w.h)) 0 (length w.h);
}

abbrev pub decreases-loop-at : goal.decreases-loop-at
decreases-loop-at g l = length l.list - l.at
