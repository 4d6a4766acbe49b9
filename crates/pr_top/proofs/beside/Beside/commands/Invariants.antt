use Rattle.std.proofs.Common.{◌≡◌, ◌≤◌, ◌*◌, ◌-◌, drop, length}
use Rattle.pr_story.specs.Scripts.{ByTime}
use Rattle.pr_text.specs.Texts.{AreOfNodes}
use Rattle.pr_top.specs.Carrying.{TellsCarried}
use Rattle.pr_top.specs.Downs.{IsWithin, TellsTrueDowns}
use Rattle.pr_top.proofs.Runs.{IsUnderWay}
use Rattle.pr_top.proofs.beside.Beside.commands.Given as goal

abbrev pub invariant-loop-at : goal.invariant-loop-at
invariant-loop-at g l = record {
  rises : g.K.Sink.faults l.fn.out ≤ g.K.Sink.faults l.out;
  nodes : AreOfNodes l.script.decls.list l.clocks;
  within : l.at ≤ length l.list;
  made : g.W.Wires.made l.wires ≤ 64 * l.at;
  sound : g.W.Wires.sound l.wires ≡ g.W.Wires.sound l.fn.wires;
  carried : TellsCarried l.script (drop l.at l.script.commands) l.run.engine (g.W.Wires.carried l.fn.wires) (g.W.Wires.carried l.wires);
  unsound : IsWithin (g.W.Wires.sound l.fn.wires) (g.W.Wires.made l.wires) (drop l.at l.script.commands) l.script;
  downs : TellsTrueDowns (g.W.Wires.sound l.fn.wires) l.script l.run.engine;
  held : IsUnderWay ByTime (g.W.Wires.sound l.fn.wires) l.script l.at l.told l.run.engine l.run.unmet (g.K.Sink.text l.fn.out) (g.K.Sink.text l.out);
}

abbrev pub decreases-loop-at : goal.decreases-loop-at
decreases-loop-at g l = length l.list - l.at
