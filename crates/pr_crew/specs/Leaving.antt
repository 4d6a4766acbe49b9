-- What the jobs of a phase leave, once all of them have ended and all cells are closed.
use Rattle.std.specs.Prelude.{ℕ, List, [], ◌≡◌, ◌≤◌, ◌<◌, IsTrue, Some, None, Result, get_or, length, map, slice_get}
use Rattle.std.specs.List.{range_with_len}
use Rattle.pr_flow.specs.declared.stop.Stop.{Stop}
use Rattle.pr_inval.specs.Standing.{Remembered}
use Rattle.pr_merge.specs.Holding.{HeldState}
use Rattle.pr_node.specs.Stored.{Stored}
use Rattle.pr_script.specs.Steps.{Numbered}
use Rattle.pr_stamps.specs.declared.no_memory.NoMemory.{NoMemory}
use Rattle.pr_story.specs.declared.entry.Entry.{Entry}
use Rattle.pr_story.specs.History.{NodeEntry, Plan}
use Rattle.pr_story.specs.Merging.{New}
use Rattle.pr_crew.specs.declared.task.FlowTask.{FlowTask}
use Rattle.pr_crew.specs.declared.task.Task.{Task}
use Rattle.pr_crew.specs.declared.task.Task.TheVariants as tasks
use Rattle.pr_crew.specs.declared.work.Work.{Work}
use Rattle.pr_wires.specs.Calls.{WireState}
use Rattle.pr_crew.specs.Crossing.{JobCrosses}
use Rattle.pr_crew.specs.Making.{IsCellOf, NodeCell, NodePass}
use Rattle.pr_crew.specs.Sites.{AreJoined, IsClosed}
use Rattle.pr_crew.specs.Tasks.{IsDone, first_stop, numbers_of, passes_at, stop_of, work_of}

-- node n was closed with the phase's own pass, into which all jobs' passes were joined, and made this list
pub record IsLeft {W : Type 0} (plan : Plan) (h : List NodeEntry) (cells : List NodeCell) (ts : List (Task W)) (n : ℕ) (es : List Entry) : Type 0 where
  pub cell : NodeCell
  pub cell_is : slice_get cells n ≡ Some cell
  pub of_node : IsCellOf plan h n cell
  pub root : NodePass
  pub joined : AreJoined cell (length (passes_at ts n)) (passes_at ts n) root
  pub node : Stored
  pub closed : IsClosed plan h n root node
  pub made_is : closed.made ≡ es

-- a flow's session was given back, of the stream and attached as before
pub record IsGivenBack {W : Type 0} (streams : ℕ → ℕ) (now : HeldState Stored) (k : ℕ) (t : FlowTask W) : Type 0 where
  pub own : streams t.work.stream ≡ k
  pub given : get_or now.sessions t.work.stream None ≡ t.session
  pub attached : (x : Remembered) → t.session ≡ Some x → IsTrue x.attached

-- in a phase of these lines that began after h, all jobs ran that work on this; the phase stops so
pub record HaveRun (W : Type 0) (state : W → WireState) (plan : Plan) (h : List NodeEntry) (inside : List Numbered) (count : ℕ) (streams : ℕ → ℕ) (was now : HeldState Stored) (ws : List Work) (stop : Result Stop NoMemory) : Type 0 where
  pub jobs : List (Task W)
  pub works : map work_of jobs ≡ ws
  pub cells : List NodeCell
  pub nodes : ℕ → List Entry
  pub done : (k : ℕ) (t : Task W) → slice_get jobs k ≡ Some t → (xs : List New) × IsDone plan h inside cells k t xs × JobCrosses state t xs
  pub in_turn : (n : ℕ) → n < count → numbers_of (passes_at jobs n) ≡ range_with_len 1 (length (passes_at jobs n))
  pub left : (n : ℕ) → n < count → (x : IsLeft plan h cells jobs n (nodes n)) × (get_or now.nodes n None ≡ Some x.node)
  pub none : (n : ℕ) → count ≤ n → nodes n ≡ []
  pub sessions : (k : ℕ) (t : FlowTask W) → slice_get jobs k ≡ Some (tasks.Flow t) → IsGivenBack streams now k t
  pub rest : (s : ℕ) → length jobs ≤ streams s → get_or now.sessions s None ≡ get_or was.sessions s None
  pub many_sessions : length now.sessions ≡ length was.sessions
  pub many_nodes : length now.nodes ≡ length was.nodes
  pub clients : now.clients ≡ was.clients
  pub places : now.places ≡ was.places
  pub stop_is : stop ≡ first_stop (map stop_of jobs)
