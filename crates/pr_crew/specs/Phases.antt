-- A phase whose jobs ran beside each other.
use Rattle.std.specs.Prelude.{ℕ, List, ◌++◌, ◌≡◌, ◌≢◌, ◌⊎◌, ◌≤◌, ◌<◌, ◌+◌, Bool, true, false, All, IsTrue, Some, None, Result, Ok, Err, get_or, is_some, length, reverse}
use Rattle.std.specs.List.{AllByRecursion}
use Rattle.pr_flow.specs.declared.stop.Stop.{Stop}
use Rattle.pr_flow.specs.declared.stop.Stop.TheVariants as stops
use Rattle.pr_flow.specs.Lies.{IsLied}
use Rattle.pr_inval.specs.Standing.{Remembered}
use Rattle.pr_merge.specs.Holding.{HeldState, Represents}
use Rattle.pr_node.specs.Stored.{Stored, means}
use Rattle.pr_script.specs.declared.owner.Owner.{Owner}
use Rattle.pr_script.specs.declared.owner.Owner.TheVariants as owner
use Rattle.pr_script.specs.Steps.{Numbered, owner_of, owners_of, turns_in}
use Rattle.pr_stamps.specs.declared.no_memory.NoMemory.{NoMemory}
use Rattle.pr_story.specs.Counts.{Declared}
use Rattle.pr_story.specs.History.{NodeEntry, Plan}
use Rattle.pr_story.specs.Phases.{AreApartJobs, IsPhaseAs}
use Rattle.pr_story.specs.Scripts.{ByTime, IsPhase, JobGives}
use Rattle.pr_text.specs.Steps.{client_job, jobs_of, stream_job}
use Rattle.pr_crew.specs.Asking.{IsShort}
use Rattle.pr_crew.specs.declared.sites.Sites.{Sites}
use Rattle.pr_crew.specs.declared.work.Work.{Work}
use Rattle.pr_crew.specs.Sites.{IsBeside, IsOpened}
use Rattle.pr_crew.specs.Tasks.{first_stop}
use Rattle.pr_crew.specs.Works.{AreWorks}

-- ---- what a phase needs

-- what a job works on is there; a stream is attached, and goes from one node to another
abbrev pub CanRunJob : {N : Type 0} → HeldState N → Owner → Type 0
CanRunJob s (owner.Client client) = client < s.clients
CanRunJob s (owner.Stream stream) = (stream < length s.sessions) × ((x : Remembered) → get_or s.sessions stream None ≡ Some x → IsTrue x.attached)

-- each line is one of a job's, and none is too long; no job is in another's way
pub record CanRunPhase {N : Type 0} (s : HeldState N) (inside : List Numbered) : Type 0 where
  pub owned : AllByRecursion (λ (c : Numbered). IsTrue (is_some (owner_of c.1)) × IsShort c.1) inside
  pub can : All (CanRunJob s) (owners_of inside)
  pub jobs : length (owners_of inside) ≤ 64
  pub turns : turns_in inside ≤ 1000000
  pub lines : length inside ≤ 100000
  pub nodes : length s.nodes ≤ 32

-- the jobs share no client and no stream, and each stream goes from one node to another
pub record AreDistinct (plan : Plan) (h : List NodeEntry) (inside : List Numbered) : Type 0 where
  pub jobs : AreApartJobs h (stream_job inside) (client_job inside) (jobs_of inside) 0
  pub streams : (s : ℕ) → All (λ (o : Owner). o ≡ owner.Stream s → (plan.stream s).source ≢ (plan.stream s).destination) (owners_of inside)

-- ---- what it leaves

abbrev pub is_went : Result Stop NoMemory → Bool
is_went (Ok stops.Went) = true
is_went stop = false

-- a job stops so only for this cause in the history
abbrev pub IsStopCause : List NodeEntry → Result Stop NoMemory → Type 0
IsStopCause h (Ok (stops.Worn at)) = (at ≡ 4611686018427387903) × (4611686018427387903 ≤ length h)
IsStopCause h (Ok (stops.Lied stream number sent got)) = IsLied h stream number sent got
IsStopCause h stop = Unit {0}

-- after h the jobs made these entries, newest first, and each ended for its cause: those that went their way gave all of
-- theirs, and the others a beginning; the phase stops as the first one that did not go its way
pub record PhaseEnds (h new : List NodeEntry) (inside : List Numbered) (stop : Result Stop NoMemory) : Type 0 where
  pub each : List (Result Stop NoMemory)
  pub many : length each ≡ length (jobs_of inside)
  pub first : stop ≡ first_stop each
  pub begun : IsPhaseAs (λ k. is_went (get_or each k (Ok stops.Went))) ByTime (jobs_of inside) (reverse new)
  pub whole : stop ≡ Ok stops.Went → IsPhase JobGives ByTime (jobs_of inside) (reverse new)
  pub causes : All (IsStopCause (new ++ h)) each

abbrev pub RepresentsNodes : (Declared → List NodeEntry → Type 0) → Declared → List NodeEntry → HeldState Stored → Type 0
RepresentsNodes records d h s = Represents (λ (m : Stored). m.id) (λ (m : Stored). (means m).sets) (λ (m : Stored). (means m).journal) records d h s

-- what is held represents the history with what the phase made; for want of memory the jobs may have ended in whatever way,
-- or none began
abbrev pub LeavesPhase : (Declared → List NodeEntry → Type 0) → Declared → List NodeEntry → List Numbered → HeldState Stored → Result Stop NoMemory → Type 0
LeavesPhase records d h inside now (Ok stop) = (new : List NodeEntry) × RepresentsNodes records d (new ++ h) now × PhaseEnds h new inside (Ok stop)
LeavesPhase records d h inside now (Err refused) =
    ((new : List NodeEntry) × (stop : Result Stop NoMemory) × RepresentsNodes records d (new ++ h) now × PhaseEnds h new inside stop)
    ⊎ RepresentsNodes records d h now

-- the same streams are attached
abbrev pub SameAttached : {N : Type 0} → HeldState N → HeldState N → Type 0
SameAttached a b = (s : ℕ) (x y : Remembered) → get_or a.sessions s None ≡ Some x → get_or b.sessions s None ≡ Some y → y.attached ≡ x.attached

-- no node was refused memory
abbrev pub AllWork : HeldState Stored → Type 0
AllWork s = (n : ℕ) (m : Stored) → get_or s.nodes n None ≡ Some m → m.spent ≡ false

-- ---- on the way

-- what the jobs work on was looked up, for a phase of so many nodes that begins after h
pub record IsPlanned (records : Declared → List NodeEntry → Type 0) (d : Declared) (h : List NodeEntry) (inside : List Numbered) (ws : List Work) (count : ℕ) (s : HeldState Stored) : Type 0 where
  pub represents : RepresentsNodes records d h s
  pub can : CanRunPhase s inside
  pub distinct : AreDistinct d.plan h inside
  pub planned : AreWorks d.plan h count inside (owners_of inside) ws
  pub many : count ≡ length s.nodes

-- the nodes are in their cells, and no job has started
pub record IsOut (records : Declared → List NodeEntry → Type 0) (d : Declared) (h : List NodeEntry) (inside : List Numbered) (ws : List Work) (s : Sites) (was now : HeldState Stored) : Type 0 where
  pub planned : IsPlanned records d h inside ws (length s.cells.items) was
  pub beside : IsBeside was now
  pub opened : (n : ℕ) → n < length s.cells.items → IsOpened d.plan h (length ws + 1) s n
  pub out : (n : ℕ) → n < length s.cells.items → get_or now.nodes n None ≡ None
