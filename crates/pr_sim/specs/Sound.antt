-- What is added to a history over sound wires.
use Rattle.std.specs.Prelude.{ℕ, List, ◌++◌, Bool, Result, Ok}
use Rattle.pr_flow.specs.declared.flow_end.FlowEnd.{FlowEnd}
use Rattle.pr_flow.specs.Downs.{AreDownsOf}
use Rattle.pr_flow.specs.Ending.{IsSoundEnd}
use Rattle.pr_flow.specs.Sound.{AreSoundEvents}
use Rattle.pr_inval.specs.declared.node_fault.NodeFault.{NodeFault}
use Rattle.pr_story.specs.Counts.{Declared}
use Rattle.pr_story.specs.History.{NodeEntry}
use Rattle.pr_sim.specs.Commands.{Grows}
use Rattle.pr_sim.specs.Running.{Tells}
use Rattle.pr_sim.specs.declared.engine.Engine.{Engine}

-- the history grew by entries none of which says that a wire failed or ended, unless the turns themselves ended so
abbrev pub GrowsSound : Declared → (ℕ → Bool) → List NodeEntry → Engine → Result FlowEnd NodeFault → Type 0
GrowsSound d attached h e r = Grows (λ (end : FlowEnd) es. IsSoundEnd (Ok end) → AreSoundEvents es) AreSoundEvents d attached h e r

-- whatever was answered, the engine tells h with entries none of which says that a wire failed or ended
abbrev pub AddsSound : Declared → List NodeEntry → Engine → Type 0
AddsSound d h e = (new : List NodeEntry) × Tells d (new ++ h) e × AreSoundEvents new

-- so it is but for flows of these streams
abbrev pub AddsDownsOf : (ℕ → Type 0) → Declared → List NodeEntry → Engine → Type 0
AddsDownsOf P d h e = (new : List NodeEntry) × Tells d (new ++ h) e × AreDownsOf P new
