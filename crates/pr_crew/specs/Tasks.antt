-- The jobs of a phase, with what they work with.
use Rattle.std.specs.Prelude.{ℕ, List, [], ◌∷◌, ◌++◌, ◌≡◌, ◌⊎◌, ◌==◌, if◌then◌else◌, Contains, IfSome, IsTrue, Option, Some, None, Result, Ok, Err, map, slice_get}
use Rattle.std.specs.List.{flat_map}
use Rattle.pr_cell.specs.Passes.{IsPassOf, held}
use Rattle.pr_flow.specs.declared.flow_end.FlowEnd.{FlowEnd}
use Rattle.pr_flow.specs.declared.flow_end.FlowEnd.TheVariants as ends
use Rattle.pr_flow.specs.Ending.{IsSoundEnd}
use Rattle.pr_flow.specs.declared.stop.Stop.{Stop}
use Rattle.pr_flow.specs.declared.stop.Stop.TheVariants as stops
use Rattle.pr_inval.specs.declared.msg.Msg.{Msg}
use Rattle.pr_inval.specs.declared.node_fault.NodeFault.{NodeFault}
use Rattle.pr_inval.specs.declared.node_fault.NodeFault.TheVariants as faults
use Rattle.pr_inval.specs.Messages.{IsMessage}
use Rattle.pr_inval.specs.Standing.{Remembered}
use Rattle.pr_merge.specs.Holding.{IsSession}
use Rattle.pr_script.specs.declared.owner.Owner.TheVariants as owner
use Rattle.pr_script.specs.Steps.{Numbered}
use Rattle.pr_stamps.specs.declared.no_memory.NoMemory.{NoMemory}
use Rattle.pr_story.specs.declared.event.Event.TheVariants.{Sent}
use Rattle.pr_story.specs.Clients.{client_node, client_vector}
use Rattle.pr_story.specs.History.{NodeEntry, Plan}
use Rattle.pr_story.specs.Merging.{New}
use Rattle.pr_text.specs.Steps.{job_of}
use Rattle.pr_wires.specs.Calls.{IsUnused, WireState}
use Rattle.pr_crew.specs.declared.task.ClientTask.{ClientTask}
use Rattle.pr_crew.specs.declared.task.FlowTask.{FlowTask}
use Rattle.pr_crew.specs.declared.task.Task.{Task}
use Rattle.pr_crew.specs.declared.task.Task.TheVariants as tasks
use Rattle.pr_crew.specs.declared.work.Work.{Work}
use Rattle.pr_crew.specs.declared.work.Work.TheVariants as works
use Rattle.pr_crew.specs.Crossing.{JobCrosses}
use Rattle.pr_crew.specs.Jobs.{ClientDone, FlowDone}
use Rattle.pr_crew.specs.Making.{HasSeen, IsCellOf, NodeCell, NodePass}
use Rattle.pr_crew.specs.Stories.{stories}

-- ---- passes

-- the pass, if it is of the cell of node n
abbrev pub of_node : ℕ → ℕ → Option NodePass → List NodePass
of_node n at None = []
of_node n at (Some p) = if at == n then p ∷ [] else []

abbrev pub numbers_of : List NodePass → List ℕ
numbers_of ps = map (λ (p : NodePass). p.number) ps

abbrev pub count_of : {W : Type 0} → Option W → ℕ
count_of None = 0
count_of (Some w) = 1

module _ {W : Type 0} where
  abbrev pub work_of : Task W → Work
  work_of (tasks.Client t) = works.Client t.work
  work_of (tasks.Flow t) = works.Flow t.work

  -- the passes that a job has of the cell of node n
  abbrev pub passes_of : ℕ → Task W → List NodePass
  passes_of n (tasks.Client t) = of_node n t.work.node t.pass
  passes_of n (tasks.Flow t) = of_node n t.work.source t.source ++ of_node n t.work.destination t.destination

  abbrev pub passes_at : List (Task W) → ℕ → List NodePass
  passes_at ts n = flat_map (passes_of n) ts

  -- how many of the jobs have a wire
  abbrev pub wires_of : Task W → ℕ
  wires_of (tasks.Client t) = 0
  wires_of (tasks.Flow t) = count_of t.wire

-- ---- what a job has, before it runs and afterwards, in a phase that begins after h, over these cells

-- the job's pass of the cell of node n, which has had no turn and seen nothing
pub record IsFresh (plan : Plan) (h : List NodeEntry) (cells : List NodeCell) (n : ℕ) (pass : Option NodePass) : Type 0 where
  pub cell : NodeCell
  pub cell_is : slice_get cells n ≡ Some cell
  pub opened : IsCellOf plan h n cell
  pub own : NodePass
  pub has : pass ≡ Some own
  pub of_cell : IsPassOf stories cell own
  pub unused : own.turns ≡ 0
  pub alone : held own.seat ≡ own.number ∷ []
  pub issues : own.issued ≡ 0
  pub seen : HasSeen own []

module _ (plan : Plan) (h : List NodeEntry) (cells : List NodeCell) where
  -- the client stands at the node, and has seen this
  pub record IsReadyClient (t : ClientTask) : Type 0 where
    pub fresh : IsFresh plan h cells t.work.node t.pass
    pub node_is : t.work.node ≡ client_node plan h t.work.client
    pub seen_is : t.work.seen ≡ client_vector h t.work.client

  -- the session stands for the attached stream, and the wire is unused
  pub record IsReadyFlow {W : Type 0} (state : W → WireState) (t : FlowTask W) : Type 0 where
    pub source_is : t.work.source ≡ (plan.stream t.work.stream).source
    pub destination_is : t.work.destination ≡ (plan.stream t.work.stream).destination
    pub source : IsFresh plan h cells t.work.source t.source
    pub destination : IsFresh plan h cells t.work.destination t.destination
    pub session : Remembered
    pub has : t.session ≡ Some session
    pub stands : IsSession plan h t.work.stream session
    pub attached : IsTrue session.attached
    pub unused : IfSome t.wire (λ w. IsUnused (state w))

  abbrev pub IsReady : {W : Type 0} → (W → WireState) → Task W → Type 0
  IsReady state (tasks.Client t) = IsReadyClient t
  IsReady state (tasks.Flow t) = IsReadyFlow state t

-- the job's pass of the cell of node n, after its turns
pub record IsUsed (cells : List NodeCell) (n : ℕ) (pass : Option NodePass) (p : NodePass) : Type 0 where
  pub cell : NodeCell
  pub cell_is : slice_get cells n ≡ Some cell
  pub has : pass ≡ Some p
  pub of_cell : IsPassOf stories cell p
  pub alone : held p.seat ≡ p.number ∷ []
  pub issues : p.issued ≡ 0

-- each message that is sent is one of the grammar
abbrev pub AreSpelled : List New → Type 0
AreSpelled xs = (x : New) (msg : Msg) → Contains xs x → x.made.entry.event ≡ Sent msg → IsMessage msg

module _ (plan : Plan) (h : List NodeEntry) (inside : List Numbered) (cells : List NodeCell) (k : ℕ) where
  -- job k has run the lines of its client
  pub record IsDoneClient (t : ClientTask) (xs : List New) : Type 0 where
    pub pass : NodePass
    pub used : IsUsed cells t.work.node t.pass pass
    pub done : ClientDone plan h t.work.node t.work.client k (job_of inside (owner.Client t.work.client)) pass t.end xs

  -- job k has made the turns of its stream
  pub record IsDoneFlow {W : Type 0} (t : FlowTask W) (xs : List New) : Type 0 where
    pub source_is : t.work.source ≡ (plan.stream t.work.stream).source
    pub destination_is : t.work.destination ≡ (plan.stream t.work.stream).destination
    pub from : NodePass
    pub source : IsUsed cells t.work.source t.source from
    pub to : NodePass
    pub destination : IsUsed cells t.work.destination t.destination to
    pub session : Remembered
    pub has : t.session ≡ Some session
    pub done : FlowDone plan h t.work.stream t.work.turns k from to session t.end xs
    pub spelled : AreSpelled xs

  abbrev pub IsDone : {W : Type 0} → Task W → List New → Type 0
  IsDone (tasks.Client t) xs = IsDoneClient t xs
  IsDone (tasks.Flow t) xs = IsDoneFlow t xs

-- the same pass of the same caller, or none
abbrev pub IsSamePass : Option NodePass → Option NodePass → Type 0
IsSamePass None None = Unit {0}
IsSamePass (Some p) (Some q) = q.number ≡ p.number
IsSamePass a b = ⊥

-- a session of the same stream, which is attached as before
abbrev pub IsSameStream : Option Remembered → Option Remembered → Type 0
IsSameStream None None = Unit {0}
IsSameStream (Some x) (Some y) = (y.stream ≡ x.stream) × (y.attached ≡ x.attached)
IsSameStream a b = ⊥

-- what stays of a job while it runs
abbrev pub StaysJob : {W : Type 0} → Task W → Task W → Type 0
StaysJob (tasks.Client t) (tasks.Client u) = (u.work ≡ t.work) × IsSamePass t.pass u.pass
StaysJob (tasks.Flow t) (tasks.Flow u) =
    (u.work ≡ t.work) × IsSamePass t.source u.source × IsSamePass t.destination u.destination × IsSameStream t.session u.session
    × (count_of u.wire ≡ count_of t.wire)
StaysJob t u = ⊥

-- ---- a job's run

-- there is a wire, and it is sound
abbrev pub IsSoundWire : {W : Type 0} → (W → WireState) → Option W → Type 0
IsSoundWire state None = ⊥
IsSoundWire state (Some w) = IsTrue (state w).sound

-- a flow's job has a wire that is sound, or its stream is one of these
abbrev pub HasKnownWire : {W : Type 0} → (W → WireState) → (ℕ → Type 0) → Task W → Type 0
HasKnownWire state P (tasks.Client t) = Unit {0}
HasKnownWire state P (tasks.Flow t) = IsSoundWire state t.wire ⊎ P t.work.stream

-- where a flow's job had a wire that is sound, the flow ended as over such a wire
abbrev pub IsHonest : {W : Type 0} → (W → WireState) → Task W → Task W → Type 0
IsHonest state (tasks.Flow t) (tasks.Flow u) = IsSoundWire state t.wire → IsSoundEnd u.end
IsHonest state t u = Unit {0}

module _ {W : Type 0} (state : W → WireState) (cells : List NodeCell) where
  -- the job is ready in a phase
  abbrev pub CanRun : Task W → Type 0
  CanRun t = (plan : Plan) × (h : List NodeEntry) × IsReady plan h cells state t

  -- what is so of a job before and after it ran
  pub record HasRun (inside : List Numbered) (t u : Task W) : Type 0 where
    pub done : (plan : Plan) (h : List NodeEntry) (k : ℕ) → IsReady plan h cells state t → (xs : List New) × IsDone plan h inside cells k u xs × JobCrosses state u xs
    pub stays : StaysJob t u
    pub honest : IsHonest state t u

-- ---- how jobs end

abbrev pub stop_of_fault : NodeFault → Result Stop NoMemory
stop_of_fault faults.NoMemory = Err (record {})
stop_of_fault (faults.Worn at) = Ok (stops.Worn at)

abbrev pub stop_of_client : Result (Unit {0}) NodeFault → Result Stop NoMemory
stop_of_client (Ok done) = Ok stops.Went
stop_of_client (Err fault) = stop_of_fault fault

abbrev pub stop_of_flow : ℕ → Result FlowEnd NodeFault → Result Stop NoMemory
stop_of_flow stream (Ok (ends.Lied number sent got)) = Ok (stops.Lied stream number sent got)
stop_of_flow stream (Ok end) = Ok stops.Went
stop_of_flow stream (Err fault) = stop_of_fault fault

abbrev pub stop_of : {W : Type 0} → Task W → Result Stop NoMemory
stop_of (tasks.Client t) = stop_of_client t.end
stop_of (tasks.Flow t) = stop_of_flow t.work.stream t.end

-- the first of them that is not that all went its way
abbrev pub first_of_two : Result Stop NoMemory → Result Stop NoMemory → Result Stop NoMemory
first_of_two (Ok stops.Went) next = next
first_of_two stop next = stop

abbrev pub first_stop : List (Result Stop NoMemory) → Result Stop NoMemory
first_stop [] = Ok stops.Went
first_stop (stop ∷ rest) = first_of_two stop (first_stop rest)
