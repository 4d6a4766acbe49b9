-- A flow between the cells of its stream's nodes.
use Rattle.std.specs.Prelude.{ℕ, List, [], ◌≡◌, Option, Some, Result}
use Rattle.pr_flow.specs.Flows.{IsWhole}
use Rattle.pr_flow.specs.declared.flow_end.FlowEnd.{FlowEnd}
use Rattle.pr_inval.specs.declared.node_fault.NodeFault.{NodeFault}
use Rattle.pr_inval.specs.Standing.{Remembered}
use Rattle.pr_merge.specs.Holding.{IsSession}
use Rattle.pr_story.specs.History.{NodeEntry, Plan}
use Rattle.pr_story.specs.Merging.{New, plain}
use Rattle.pr_story.specs.Scripts.{events_of}
use Rattle.pr_wires.specs.Calls.{WireState}
use Rattle.pr_crew.specs.Acting.{AtCell}
use Rattle.pr_crew.specs.Crossing.{HasCrossed}
use Rattle.pr_crew.specs.Jobs.{FlowDone}
use Rattle.pr_crew.specs.Making.{HasSeen, IsCellOf, IsSameCaller, NodePass}
use Rattle.pr_crew.specs.Tasks.{AreSpelled}

-- the side is at the cell of node n as a phase began after h, with a pass that has seen nothing made since
pub record BeginsAt (plan : Plan) (h : List NodeEntry) (n : ℕ) (x : AtCell) : Type 0 where
  pub cell : IsCellOf plan h n x.cell
  pub pass : NodePass
  pub has : x.pass ≡ Some pass
  pub seen : HasSeen pass []

-- both sides are, and the session stands for the attached stream
pub record FlowBegins (plan : Plan) (h : List NodeEntry) (s : ℕ) (source destination : AtCell) (session : Remembered) : Type 0 where
  pub source_is : BeginsAt plan h (plan.stream s).source source
  pub destination_is : BeginsAt plan h (plan.stream s).destination destination
  pub session_is : IsSession plan h s session

-- both sides still have their cells and passes of the same callers, and between these the flow's job is done
pub record FlowEnds (plan : Plan) (h : List NodeEntry) (s turns k : ℕ) (a b x y : AtCell) (session : Remembered) (end : Result FlowEnd NodeFault) : Type 0 where
  pub source : NodePass
  pub destination : NodePass
  pub has_source : x.pass ≡ Some source
  pub has_destination : y.pass ≡ Some destination
  pub same_source : (p : NodePass) → a.pass ≡ Some p → IsSameCaller p source
  pub same_destination : (p : NodePass) → b.pass ≡ Some p → IsSameCaller p destination
  pub source_cell : x.cell ≡ a.cell
  pub destination_cell : y.cell ≡ b.cell
  pub made : List New
  pub done : FlowDone plan h s turns k source destination session end made
  pub spelled : AreSpelled made

-- so it is, and what the flow took crossed its wire, if there is one and the flow was not cut off
abbrev pub FlowEndsOver : {W : Type 0} → (W → WireState) → Option W → Plan → List NodeEntry → ℕ → ℕ → ℕ → AtCell → AtCell → AtCell → AtCell → Remembered → Result FlowEnd NodeFault → Type 0
FlowEndsOver state wire plan h s turns k a b x y session end =
    (f : FlowEnds plan h s turns k a b x y session end) × (IsWhole end → HasCrossed state wire s (events_of (plain f.made)))
