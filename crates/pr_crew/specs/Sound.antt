-- What a phase leaves over wires some of which are sound.
use Rattle.std.specs.Prelude.{ℕ, List, ◌++◌, ◌≡◌, ◌⊎◌, Some, slice_get}
use Rattle.pr_flow.specs.Downs.{AreDownsOf}
use Rattle.pr_flow.specs.Ending.{IsSoundEnd}
use Rattle.pr_merge.specs.Holding.{HeldState}
use Rattle.pr_node.specs.Stored.{Stored}
use Rattle.pr_story.specs.Counts.{Declared}
use Rattle.pr_story.specs.History.{NodeEntry}
use Rattle.pr_crew.specs.declared.task.FlowTask.{FlowTask}
use Rattle.pr_crew.specs.declared.task.Task.{Task}
use Rattle.pr_crew.specs.declared.task.Task.TheVariants as tasks
use Rattle.pr_crew.specs.Phases.{RepresentsNodes}

-- each flow ended as over a sound wire, or is of one of these streams
abbrev pub HaveEndsOf : {W : Type 0} → (ℕ → Type 0) → List (Task W) → Type 0
HaveEndsOf {W} P ts = (k : ℕ) (t : FlowTask W) → slice_get ts k ≡ Some (tasks.Flow t) → IsSoundEnd t.end ⊎ P t.work.stream

-- what is held represents h with entries which say that a wire failed or ended for flows of these streams alone
abbrev pub AddsDownsOf : (ℕ → Type 0) → (Declared → List NodeEntry → Type 0) → Declared → List NodeEntry → HeldState Stored → Type 0
AddsDownsOf P records d h s = (new : List NodeEntry) × RepresentsNodes records d (new ++ h) s × AreDownsOf P new
