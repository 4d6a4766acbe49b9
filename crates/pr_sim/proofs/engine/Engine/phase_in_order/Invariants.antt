use Rattle.std.specs.Prelude.{ℕ, List, ◌++◌, ◌≡◌, ◌+◌, Bool, length, map, reverse, take}
use Rattle.std.specs.List.{AllByRecursion, flat_map}
use Rattle.pr_flow.specs.Downs.{IsUnsoundFor, flow_of}
use Rattle.pr_script.specs.Steps.{owners_of}
use Rattle.pr_story.specs.History.{NodeEntry}
use Rattle.pr_story.specs.Scripts.{JobGives}
use Rattle.pr_story.proofs.JobAfterJob.{AreOfJobs}
use Rattle.pr_text.specs.Steps.{job_of}
use Rattle.pr_sim.specs.Crossing.{JobsCarry}
use Rattle.pr_sim.specs.Phasing.{CanDo, IsJobLine}
use Rattle.pr_sim.specs.Running.{IsKept, IsRunning}
use Rattle.pr_sim.specs.Sound.{AddsDownsOf}
use Rattle.pr_story.specs.Counts.{Declared}
use Rattle.pr_sim.specs.Stepping.{StepsByWires}
use Rattle.pr_sim.proofs.engine.Engine.phase_in_order.Given as goal

abbrev pub invariant-loop-owner : goal.invariant-loop-owner
invariant-loop-owner g l = record {
  kept : IsKept l.self;
  lines : AllByRecursion (IsJobLine l.self) l.inside;
  can : AllByRecursion (CanDo l.self) (owners_of l.inside);
  given : (d : Declared) (attached : ℕ → Bool) (h : List NodeEntry) → IsRunning d attached h l.initial.self
      → (new : List NodeEntry) × IsRunning d attached (new ++ h) l.self × AreOfJobs JobGives (map (job_of l.inside) (take l.owner-index (owners_of l.inside))) (reverse new);
  carried : (d : Declared) (attached : ℕ → Bool) (h : List NodeEntry) → IsRunning d attached h l.initial.self
      → (new : List NodeEntry) × IsRunning d attached (new ++ h) l.self × JobsCarry (map (job_of l.inside) (take l.owner-index (owners_of l.inside))) (reverse new) (g.W.Wires.carried l.initial.wires) (g.W.Wires.carried l.wires);
  downs : (d : Declared) (attached : ℕ → Bool) (h : List NodeEntry) → IsRunning d attached h l.initial.self → AddsDownsOf (λ x. IsUnsoundFor (g.W.Wires.sound l.initial.wires) (g.W.Wires.made l.initial.wires) (flat_map flow_of (map (job_of l.inside) (take l.owner-index (owners_of l.inside)))) x) d h l.self;
  made : g.W.Wires.made l.wires ≡ g.W.Wires.made l.initial.wires + length (flat_map flow_of (map (job_of l.inside) (take l.owner-index (owners_of l.inside))));
  wires : StepsByWires g.W.Wires.faults g.W.Wires.made g.W.Wires.out g.W.Wires.sound l.owner-index l.initial.wires l.wires;
}
