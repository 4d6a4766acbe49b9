-- What the jobs of a phase work on.
use Rattle.std.specs.Prelude.{ℕ, List, [], ◌∷◌, ◌≡◌, ◌≤◌, ◌<◌, ◌+◌, if◌then◌else◌, ◌==◌, length, sum_by}
use Rattle.std.specs.List.{flat_map}
use Rattle.pr_merge.specs.Holding.{HeldState}
use Rattle.pr_script.specs.declared.owner.Owner.{Owner}
use Rattle.pr_script.specs.declared.owner.Owner.TheVariants as owner
use Rattle.pr_script.specs.Steps.{Numbered, turns_in}
use Rattle.pr_story.specs.Clients.{client_node, client_vector}
use Rattle.pr_story.specs.History.{NodeEntry, Plan}
use Rattle.pr_text.specs.Steps.{lines_by}
use Rattle.pr_crew.specs.declared.work.ClientWork.{ClientWork}
use Rattle.pr_crew.specs.declared.work.FlowWork.{FlowWork}
use Rattle.pr_crew.specs.declared.work.Work.{Work}
use Rattle.pr_crew.specs.declared.work.Work.TheVariants as works

-- the job's client or stream is there
abbrev pub CanPlan : {N : Type 0} → HeldState N → Owner → Type 0
CanPlan s (owner.Client client) = client < s.clients
CanPlan s (owner.Stream stream) = stream < length s.sessions

-- how many lines a job has
abbrev pub lines_of : Owner → List Numbered → ℕ
lines_of mine inside = length (lines_by mine inside)

-- the number of the job's first line
abbrev pub number_of : List Numbered → ℕ
number_of [] = 0
number_of (line ∷ lines) = line.0

abbrev pub first_line : Owner → List Numbered → ℕ
first_line mine inside = number_of (lines_by mine inside)

-- in a phase of these lines that begins after h, of so many nodes
module _ (plan : Plan) (h : List NodeEntry) (count : ℕ) (inside : List Numbered) where
  pub record IsClientWork (client : ℕ) (w : ClientWork) : Type 0 where
    pub client_is : w.client ≡ client
    pub node_is : w.node ≡ client_node plan h client
    pub node : w.node < count
    pub seen_is : w.seen ≡ client_vector h client
    pub lines_are : w.lines ≡ lines_of (owner.Client client) inside

  pub record IsFlowWork (stream : ℕ) (w : FlowWork) : Type 0 where
    pub stream_is : w.stream ≡ stream
    pub source_is : w.source ≡ (plan.stream stream).source
    pub source : w.source < count
    pub destination_is : w.destination ≡ (plan.stream stream).destination
    pub destination : w.destination < count
    pub line_is : w.line ≡ first_line (owner.Stream stream) inside
    pub turns_are : w.turns ≡ turns_in (lines_by (owner.Stream stream) inside)

  abbrev pub IsWork : Owner → Work → Type 0
  IsWork (owner.Client client) (works.Client w) = IsClientWork client w
  IsWork (owner.Stream stream) (works.Flow w) = IsFlowWork stream w
  IsWork o w = ⊥

  -- each job's, in their order
  abbrev pub AreWorks : List Owner → List Work → Type 0
  AreWorks [] ws = ws ≡ []
  AreWorks (o ∷ os) [] = ⊥
  AreWorks (o ∷ os) (w ∷ ws) = IsWork o w × AreWorks os ws

-- ---- flows

-- the stream of a flow, and of all flows in order
abbrev pub own_flow : Work → List ℕ
own_flow (works.Client w) = []
own_flow (works.Flow w) = w.stream ∷ []

abbrev pub own_flows : List Work → List ℕ
own_flows ws = flat_map own_flow ws

-- ---- room

-- the most entries that a job can make at a node
abbrev pub most_at : ℕ → Work → ℕ
most_at n (works.Client w) = if w.node == n then w.lines else 0
most_at n (works.Flow w) = (if w.source == n then w.turns else 0) + (if w.destination == n then w.turns + 1 else 0)

-- and all jobs
abbrev pub all_at : List Work → ℕ → ℕ
all_at ws n = sum_by (most_at n) ws

abbrev pub IsSmall : Work → Type 0
IsSmall (works.Client w) = w.lines ≤ 100000
IsSmall (works.Flow w) = w.turns ≤ 1000000
