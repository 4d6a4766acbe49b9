-- What crosses the wires of a phase's flows.
use Rattle.std.specs.Prelude.{ℕ, List, [], ◌∷◌, ◌≡◌, ◌≢◌, Option, Some, None}
use Rattle.pr_flow.specs.Crossing.{IsItem}
use Rattle.pr_flow.specs.Flows.{IsWhole}
use Rattle.pr_story.specs.declared.cause.Cause.TheVariants.{Failed}
use Rattle.pr_story.specs.declared.event.Event.{Event}
use Rattle.pr_story.specs.declared.event.Event.TheVariants.{Down}
use Rattle.pr_story.specs.Merging.{New, plain}
use Rattle.pr_story.specs.Scripts.{events_of}
use Rattle.pr_wires.specs.Calls.{WireState}
use Rattle.pr_wires.specs.Made.{Carries}
use Rattle.pr_crew.specs.declared.task.FlowTask.{FlowTask}
use Rattle.pr_crew.specs.declared.task.Task.{Task}
use Rattle.pr_crew.specs.declared.task.Task.TheVariants as tasks

-- ---- one flow

-- what was taken over a wire, where it is told, crossed it for these events of stream s
abbrev pub IsTakenFor : ℕ → List Event → Option (List ℕ) → Type 0
IsTakenFor s events None = Unit {0}
IsTakenFor s events (Some bytes) = IsItem s events bytes

module _ {W : Type 0} (state : W → WireState) where
  -- a flow of stream s gave these events over this wire, or went down at once as there is none
  abbrev pub HasCrossed : Option W → ℕ → List Event → Type 0
  HasCrossed None s events = events ≡ Down s Failed ∷ []
  HasCrossed (Some w) s events = (events ≢ Down s Failed ∷ []) × IsTakenFor s events (state w).taken

  -- so did the flow's job that made these entries, unless it was cut off
  abbrev pub FlowCrosses : FlowTask W → List New → Type 0
  FlowCrosses t xs = IsWhole t.end → HasCrossed t.wire t.work.stream (events_of (plain xs))

  abbrev pub JobCrosses : Task W → List New → Type 0
  JobCrosses (tasks.Client t) xs = Unit {0}
  JobCrosses (tasks.Flow t) xs = FlowCrosses t xs

  -- ---- the wires that were closed

  -- the wire, if there is one, was closed
  abbrev pub IsClosed : Option W → Option (List (List ℕ)) → Option (List (List ℕ)) → Type 0
  IsClosed None before now = now ≡ before
  IsClosed (Some w) before now = Carries before now (state w).taken

  abbrev pub ClosesJob : Task W → Option (List (List ℕ)) → Option (List (List ℕ)) → Type 0
  ClosesJob (tasks.Client t) before now = now ≡ before
  ClosesJob (tasks.Flow t) before now = IsClosed t.wire before now

  -- the jobs' wires were closed in their order
  abbrev pub AreClosed : List (Task W) → Option (List (List ℕ)) → Option (List (List ℕ)) → Type 0
  AreClosed [] before now = now ≡ before
  AreClosed (t ∷ ts) before now = (then : Option (List (List ℕ))) × ClosesJob t before then × AreClosed ts then now
