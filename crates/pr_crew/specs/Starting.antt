-- Jobs while they get what they work with, and when they give it back.
use Rattle.std.specs.Prelude.{ℕ, List, [], ◌∷◌, ◌≡◌, ◌≢◌, ◌≤◌, ◌<◌, ◌+◌, IfSome, IsTrue, Option, Some, None, get_or, length, slice_get, slice_set, take}
use Rattle.std.specs.List.{range_with_len}
use Rattle.pr_cell.specs.Passes.{held}
use Rattle.pr_inval.specs.Standing.{Remembered}
use Rattle.pr_merge.specs.Holding.{AreSessions, HeldState}
use Rattle.pr_node.specs.Stored.{Stored}
use Rattle.pr_script.specs.declared.owner.Owner.{Owner}
use Rattle.pr_script.specs.Steps.{Numbered}
use Rattle.pr_story.specs.History.{NodeEntry, Plan}
use Rattle.pr_wires.specs.Calls.{IsUnused, WireState}
use Rattle.pr_crew.specs.declared.sites.Sites.{Sites}
use Rattle.pr_crew.specs.declared.task.ClientTask.{ClientTask}
use Rattle.pr_crew.specs.declared.task.FlowTask.{FlowTask}
use Rattle.pr_crew.specs.declared.task.Task.{Task}
use Rattle.pr_crew.specs.declared.task.Task.TheVariants as tasks
use Rattle.pr_crew.specs.declared.work.FlowWork.{FlowWork}
use Rattle.pr_crew.specs.declared.work.Work.{Work}
use Rattle.pr_crew.specs.declared.work.Work.TheVariants as works
use Rattle.pr_crew.specs.Making.{HasSeen, IsCellOf, NodeCell, NodePass}
use Rattle.pr_crew.specs.Sites.{AreJoined, CanJoin, CanSplit, IsOpened, IsRoot, IsSite, Joins, Splits}
use Rattle.pr_crew.specs.Tasks.{IsReady, IsUsed, numbers_of, passes_at, work_of}
use Rattle.pr_crew.specs.Works.{AreWorks}

-- all but the sessions is as it was, and there are as many of these
pub record IsBesideSessions {N : Type 0} (was now : HeldState N) : Type 0 where
  pub nodes : now.nodes ≡ was.nodes
  pub clients : now.clients ≡ was.clients
  pub places : now.places ≡ was.places
  pub sessions : length now.sessions ≡ length was.sessions

-- ---- before

-- a flow's stream is there and attached, is this job's alone, and goes from one node to another
pub record IsLent (streams : ℕ → ℕ) (sessions : List (Option Remembered)) (k : ℕ) (w : FlowWork) : Type 0 where
  pub own : streams w.stream ≡ k
  pub apart : w.source ≢ w.destination
  pub within : w.stream < length sessions
  pub attached : (x : Remembered) → get_or sessions w.stream None ≡ Some x → IsTrue x.attached

-- all is there that the jobs work with, as a phase begins after h
pub record CanStart (plan : Plan) (h : List NodeEntry) (count : ℕ) (inside : List Numbered) (owners : List Owner) (streams : ℕ → ℕ) (was : HeldState Stored) (s : Sites) (ws : List Work) : Type 0 where
  pub planned : AreWorks plan h count inside owners ws
  pub opened : (n : ℕ) → n < count → IsOpened plan h (length ws + 1) s n
  pub sessions : AreSessions plan h was.sessions
  pub flows : (k : ℕ) (w : FlowWork) → slice_get ws k ≡ Some (works.Flow w) → IsLent streams was.sessions k w

-- ---- the jobs that started

-- from the phase's own pass of node n's cell the passes of these numbers were split
pub record IsSplit (plan : Plan) (h : List NodeEntry) (callers : ℕ) (s : Sites) (n : ℕ) (numbers : List ℕ) : Type 0 where
  pub cell : NodeCell
  pub pass : NodePass
  pub site : IsSite s n cell pass
  pub of_node : IsCellOf plan h n cell
  pub root : IsRoot cell pass
  pub many : cell.callers ≡ callers
  pub held_is : held pass.seat ≡ 0 ∷ []
  pub issued : pass.issued ≡ length numbers + 1
  pub in_turn : numbers ≡ range_with_len 1 (length numbers)
  pub sees : HasSeen pass []

-- the first so many jobs have all that they work with
pub record HaveStarted {W : Type 0} (state : W → WireState) (plan : Plan) (h : List NodeEntry) (count : ℕ) (streams : ℕ → ℕ) (was now : HeldState Stored) (s : Sites) (ws : List Work) (done : ℕ) (ts : List (Task W)) : Type 0 where
  pub many : length ts ≡ done
  pub planned : (k : ℕ) (t : Task W) → slice_get ts k ≡ Some t → slice_get ws k ≡ Some (work_of t)
  pub ready : (k : ℕ) (t : Task W) → slice_get ts k ≡ Some t → IsReady plan h s.cells.items state t
  pub split : (n : ℕ) → n < count → IsSplit plan h (length ws + 1) s n (numbers_of (passes_at ts n))
  pub beside : IsBesideSessions was now
  pub lent : (s : ℕ) → done ≤ streams s → get_or now.sessions s None ≡ get_or was.sessions s None
  pub out : (k : ℕ) (t : FlowTask W) → slice_get ts k ≡ Some (tasks.Flow t) → get_or now.sessions t.work.stream None ≡ None

-- the next job can start: its passes can be split, and a flow's session is here
abbrev pub CanStartOne : HeldState Stored → Sites → Work → Type 0
CanStartOne now s (works.Client w) = CanSplit s w.node
CanStartOne now s (works.Flow w) =
    CanSplit s w.source × CanSplit s w.destination × (w.source ≢ w.destination) × (w.stream < length now.sessions)

-- a job got its passes, and a flow its stream's session and a wire that is unused, if there is one
abbrev pub StartsOne : {W : Type 0} → (W → WireState) → HeldState Stored → HeldState Stored → Sites → Sites → Work → Task W → Type 0
StartsOne state was now s t (works.Client w) (tasks.Client x) = (x.work ≡ w) × Splits s t w.node x.pass × (now ≡ was)
StartsOne state was now s t (works.Flow w) (tasks.Flow x) =
    (x.work ≡ w) × ((mid : Sites) × Splits s mid w.source x.source × Splits mid t w.destination x.destination)
    × (x.session ≡ get_or was.sessions w.stream None)
    × (now ≡ record { nodes = was.nodes; sessions = slice_set was.sessions w.stream None; clients = was.clients; places = was.places })
    × IfSome x.wire (λ y. IsUnused (state y))
StartsOne state was now s t w x = ⊥

-- ---- the jobs that ended

-- a flow's job has what it is to give back
pub record CanEndFlow {W : Type 0} (count : ℕ) (streams : ℕ → ℕ) (now : HeldState Stored) (s : Sites) (k : ℕ) (t : FlowTask W) : Type 0 where
  pub own : streams t.work.stream ≡ k
  pub apart : t.work.source ≢ t.work.destination
  pub within : t.work.stream < length now.sessions
  pub source : (t.work.source < count) × ((p : NodePass) × IsUsed s.cells.items t.work.source t.source p)
  pub destination : (t.work.destination < count) × ((p : NodePass) × IsUsed s.cells.items t.work.destination t.destination p)
  pub session : (x : Remembered) × (t.session ≡ Some x)

-- all have what they are to give back, over these cells, whose passes are in turn
pub record CanEnd {W : Type 0} (plan : Plan) (h : List NodeEntry) (count : ℕ) (streams : ℕ → ℕ) (now : HeldState Stored) (s : Sites) (ts : List (Task W)) : Type 0 where
  pub split : (n : ℕ) → n < count → IsSplit plan h (length ts + 1) s n (numbers_of (passes_at ts n))
  pub clients : (k : ℕ) (t : ClientTask) → slice_get ts k ≡ Some (tasks.Client t) → (t.work.node < count) × ((p : NodePass) × IsUsed s.cells.items t.work.node t.pass p)
  pub flows : (k : ℕ) (t : FlowTask W) → slice_get ts k ≡ Some (tasks.Flow t) → CanEndFlow count streams now s k t
  pub out : (k : ℕ) (t : FlowTask W) → slice_get ts k ≡ Some (tasks.Flow t) → get_or now.sessions t.work.stream None ≡ None

-- the first so many jobs gave back all that they worked with
pub record HaveEnded {W : Type 0} (plan : Plan) (h : List NodeEntry) (count : ℕ) (streams : ℕ → ℕ) (was now : HeldState Stored) (s : Sites) (ts : List (Task W)) (done : ℕ) : Type 0 where
  pub joined : (n : ℕ) → n < count → (c : NodeCell) × (r : NodePass) × IsSite s n c r × IsCellOf plan h n c × AreJoined c (length (passes_at ts n)) (passes_at (take done ts) n) r
  pub beside : IsBesideSessions was now
  pub given : (k : ℕ) (t : FlowTask W) → k < done → slice_get ts k ≡ Some (tasks.Flow t) → get_or now.sessions t.work.stream None ≡ t.session
  pub out : (k : ℕ) (t : FlowTask W) → done ≤ k → slice_get ts k ≡ Some (tasks.Flow t) → get_or now.sessions t.work.stream None ≡ None
  pub rest : (s : ℕ) → length ts ≤ streams s → get_or now.sessions s None ≡ get_or was.sessions s None

-- a job's passes can be joined; a flow's session is there, and can be given back
abbrev pub CanEndOne : {W : Type 0} → HeldState Stored → Sites → Task W → Type 0
CanEndOne now s (tasks.Client x) = CanJoin s x.work.node x.pass
CanEndOne now s (tasks.Flow x) =
    CanJoin s x.work.source x.source × CanJoin s x.work.destination x.destination × (x.work.source ≢ x.work.destination)
    × ((y : Remembered) × (x.session ≡ Some y)) × (x.work.stream < length now.sessions) × (get_or now.sessions x.work.stream None ≡ None)

-- a job's passes were joined, and a flow's session was given back
abbrev pub EndsOne : {W : Type 0} → HeldState Stored → HeldState Stored → Sites → Sites → Task W → Type 0
EndsOne was now s t (tasks.Client x) = Joins s t x.work.node x.pass × (now ≡ was)
EndsOne was now s t (tasks.Flow x) =
    ((mid : Sites) × Joins s mid x.work.source x.source × Joins mid t x.work.destination x.destination)
    × (now ≡ record { nodes = was.nodes; sessions = slice_set was.sessions x.work.stream x.session; clients = was.clients; places = was.places })
