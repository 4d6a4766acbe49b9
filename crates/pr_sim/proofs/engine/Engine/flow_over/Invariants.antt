use Rattle.std.specs.Prelude.{ℕ, List, ◌++◌, ◌<◌, Bool, None, length, reverse}
use Rattle.pr_story.specs.History.{NodeEntry}
use Rattle.pr_story.specs.Scripts.{events_of}
use Rattle.pr_flow.specs.Flows.{crossed}
use Rattle.pr_flow.specs.Sound.{AreSoundEvents}
use Rattle.pr_wires.specs.Calls.{Grows}
use Rattle.pr_sim.specs.Flowing.{LeadsTo, WireGoesOn}
use Rattle.pr_sim.specs.Running.{HasAttached, IsKept, IsRunning}
use Rattle.pr_story.specs.Counts.{Declared}
use Rattle.pr_sim.proofs.engine.Engine.flow_over.Given as goal

abbrev pub invariant-loop-left : goal.invariant-loop-left
invariant-loop-left g l =
    let w = g.W.Wire in
    record {
      kept : IsKept l.self;
      stream : l.stream < length l.self.sessions.items;
      attached : HasAttached l.self l.stream;
      grown : (d : Declared) (attached : ℕ → Bool) (h : List NodeEntry) → IsRunning d attached h l.initial.self
          → (new : List NodeEntry) × IsRunning d attached (new ++ h) l.self × LeadsTo l.stream None l.turns l.left (events_of (reverse new));
      crosses : (d : Declared) (attached : ℕ → Bool) (h : List NodeEntry) → IsRunning d attached h l.initial.self
          → (new : List NodeEntry) × IsRunning d attached (new ++ h) l.self × Grows (w.state l.initial.wire).taken (w.state l.wire).taken (crossed (events_of (reverse new)));
      sounds : (d : Declared) (attached : ℕ → Bool) (h : List NodeEntry) → IsRunning d attached h l.initial.self
          → (new : List NodeEntry) × IsRunning d attached (new ++ h) l.self × AreSoundEvents (reverse new);
      wire : WireGoesOn (w.state l.initial.wire) (w.state l.wire);
    }

abbrev pub decreases-loop-left : goal.decreases-loop-left
decreases-loop-left g l = l.left
