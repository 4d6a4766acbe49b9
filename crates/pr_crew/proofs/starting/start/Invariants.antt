use Rattle.std.proofs.Common.{◌≡◌, ◌≤◌, ◌+◌, ℕ, List, length, take}
use Rattle.std.specs.Prelude.{All, sum_by, vec_capacity}
use Rattle.pr_script.specs.Steps.{Numbered}
use Rattle.pr_script.specs.declared.owner.Owner.{Owner}
use Rattle.pr_story.specs.Counts.{Declared}
use Rattle.pr_story.specs.History.{NodeEntry, Plan}
use Rattle.pr_crew.specs.Starting.{CanStart, HaveStarted}
use Rattle.pr_crew.specs.Tasks.{HasKnownWire, wires_of}
use Rattle.pr_crew.specs.Works.{own_flows}
use Rattle.pr_flow.specs.Downs.{IsUnsoundFor}
use Rattle.pr_crew.proofs.starting.start.Given as goal

abbrev pub invariant-loop-work : goal.invariant-loop-work
invariant-loop-work g l = record {
  started : (plan : Plan) (h : List NodeEntry) (count : ℕ) (inside : List Numbered) (owners : List Owner) (streams : ℕ → ℕ) → CanStart plan h count inside owners streams (g.H.Held.state l.initial.held) l.initial.sites l.works
      → HaveStarted g.W.Wire.Wire.state plan h count streams (g.H.Held.state l.initial.held) (g.H.Held.state l.held) l.sites l.works l.work-index l.tasks.items;
  cells : l.sites.cells ≡ l.initial.sites.cells;
  records : (d : Declared) (h : List NodeEntry) → g.H.Held.records l.initial.held d h → g.H.Held.records l.held d h;
  room : (n : ℕ) → g.H.Held.has_room l.initial.held n → g.H.Held.has_room l.held n;
  places : length l.works ≤ vec_capacity l.tasks;
  made : g.W.Wires.made l.wires ≤ g.W.Wires.made l.initial.wires + l.work-index;
  out : g.W.Wires.out l.wires ≡ g.W.Wires.out l.initial.wires + sum_by wires_of l.tasks.items;
  faults : g.W.Wires.faults l.initial.wires ≤ g.W.Wires.faults l.wires;
  sound : g.W.Wires.sound l.wires ≡ g.W.Wires.sound l.initial.wires;
  carried : g.W.Wires.carried l.wires ≡ g.W.Wires.carried l.initial.wires;
  each_made : g.W.Wires.made l.wires ≡ g.W.Wires.made l.initial.wires + length (own_flows (take l.work-index l.works));
  known_wires : All (HasKnownWire g.W.Wire.Wire.state (λ x. IsUnsoundFor (g.W.Wires.sound l.initial.wires) (g.W.Wires.made l.initial.wires) (own_flows (take l.work-index l.works)) x)) l.tasks.items;
}
