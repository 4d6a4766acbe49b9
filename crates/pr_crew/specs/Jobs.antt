-- What a job of a phase has made.
use Rattle.std.specs.Prelude.{ℕ, List, [], ◌∷◌, ◌++◌, ◌≡◌, ◌⊎◌, All, Contains, IsTrue, Result, Ok, Err, eqb, filter, cond, reverse}
use Rattle.std.specs.List.Sorted.{IsStrictlyIncreasing}
use Rattle.pr_flow.specs.declared.flow_end.FlowEnd.{FlowEnd}
use Rattle.pr_flow.specs.declared.flow_end.FlowEnd.TheVariants as ends
use Rattle.pr_flow.specs.Ending.{IsSoundEnd}
use Rattle.pr_flow.specs.Flows.{is_at_source, is_at_destination}
use Rattle.pr_flow.specs.Lies.{IsLied}
use Rattle.pr_flow.specs.Sound.{IsSoundEvent}
use Rattle.pr_inval.specs.declared.node_fault.NodeFault.{NodeFault}
use Rattle.pr_inval.specs.Standing.{Remembered}
use Rattle.pr_merge.specs.Holding.{IsSession}
use Rattle.pr_merge.specs.Phases.{times_of}
use Rattle.pr_node.specs.Calls.{IsTimeWorn, IsWriteWorn}
use Rattle.pr_node.specs.Stored.{NodeMeaning}
use Rattle.pr_story.specs.declared.entry.Entry.{Entry}
use Rattle.pr_story.specs.Clients.{client_vector, is_of_client}
use Rattle.pr_story.specs.History.{NodeEntry, Plan, journal}
use Rattle.pr_story.specs.Lawful.{IsOwnLawful}
use Rattle.pr_story.specs.Merging.{IsJobRun, IsNoMissing, New, just, plain}
use Rattle.pr_story.specs.Scripts.{FlowJob, Job, JobBegins, JobGives}
use Rattle.pr_story.specs.Turns.{is_of_stream, stream_time}
use Rattle.pr_crew.specs.Making.{HasSeen, IsFaultFor, NodePass, node_with}

-- the caller's own entries among these
abbrev pub own : ℕ → List Entry → List Entry
own k es = filter (λ e. eqb e.caller k) es

-- the job was given where it went its way, and else it has begun
abbrev pub Gives : {X E : Type 0} → Job → List New → Result X E → Type 0
Gives job xs (Ok x) = JobGives job (plain xs)
Gives job xs (Err fault) = JobBegins job (plain xs)

-- those of them that were made at the stream's source, and at its destination
abbrev pub at_source : List New → List New
at_source [] = []
at_source (x ∷ xs) = cond (is_at_source x.made.entry.event) (x ∷ at_source xs) (at_source xs)

abbrev pub at_destination : List New → List New
at_destination [] = []
at_destination (x ∷ xs) = cond (is_at_destination x.made.entry.event) (x ∷ at_destination xs) (at_destination xs)

-- the flow went its way, and gave all that its turns give; or it was cut off
abbrev pub FlowGives : Job → List New → Result FlowEnd NodeFault → Type 0
FlowGives job xs (Ok (ends.Lied number sent got)) = JobBegins job (plain xs)
FlowGives job xs (Ok end) = JobGives job (plain xs)
FlowGives job xs (Err fault) = JobBegins job (plain xs)

module _ (plan : Plan) (h : List NodeEntry) where
  -- the entry stands behind these of the node as x says, and is lawful there
  pub record IsNew (n : ℕ) (before : List Entry) (e : Entry) (x : New) : Type 0 where
    pub made : x.made ≡ record { node = n; entry = e }
    pub lawful : IsOwnLawful (λ s. x.session) (λ c. x.needs) (plan.sets n) n (reverse before ++ journal h n) e

  -- of all that the pass has seen at node n, its own entries are just these, in their order
  pub record MadeAt (n : ℕ) (p : NodePass) (xs : List New) : Type 0 where
    pub all : List Entry
    pub seen : HasSeen p all
    pub here : All (λ x. x.made.node ≡ n) xs
    pub own_are : own p.number all ≡ just xs
    pub each : (before : List Entry) (e : Entry) (after : List Entry) → all ≡ before ++ e ∷ after → e.caller ≡ p.number
        → (x : New) × Contains xs x × IsNew n before e x

  -- a worn node that the pass has seen, for this cause
  abbrev pub IsWornAt : ℕ → (NodeMeaning → Type 0) → NodePass → Type 0
  IsWornAt n Cause p = (all : List Entry) × HasSeen p all × Cause (node_with plan h n all)

  -- what job k has made, the oldest first: each in the order of the job, with its cause in h or in the job
  pub record IsRun (k : ℕ) (xs : List New) : Type 0 where
    pub job : All (λ x. x.job ≡ k) xs
    pub run : IsJobRun plan h (reverse xs)

  -- ---- a client's job

  -- a client's call was refused for want of memory, or as its node is worn
  abbrev pub ClientFailed : ℕ → List ℕ → NodePass → Result (Unit {0}) NodeFault → Type 0
  ClientFailed n needs p (Ok x) = Unit {0}
  ClientFailed n needs p (Err fault) = IsFaultFor (IsWornAt n (λ a. IsWriteWorn a needs) p) fault

  -- job k has run this job of a client at node n, and ended so
  pub record ClientDone (n client k : ℕ) (job : Job) (p : NodePass) (end : Result (Unit {0}) NodeFault) (xs : List New) : Type 0 where
    pub run : IsRun k xs
    pub made : MadeAt n p xs
    pub gives : Gives job xs end
    pub of_client : All (λ x. IsTrue (is_of_client x.made.entry.event client)) xs
    pub failed : ClientFailed n (client_vector (plain (reverse xs) ++ h) client) p end

  -- ---- a flow's job

  abbrev pub FlowLied : ℕ → List New → Result FlowEnd NodeFault → Type 0
  FlowLied s xs (Ok (ends.Lied number sent got)) = IsLied (plain (reverse xs) ++ h) s number sent got
  FlowLied s xs end = Unit {0}

  -- a flow's call was refused for want of memory, or as the node or the stream has the greatest time
  abbrev pub FlowFailed : ℕ → NodePass → NodePass → List New → Result FlowEnd NodeFault → Type 0
  FlowFailed s p q xs (Ok end) = Unit {0}
  FlowFailed s p q xs (Err fault) =
      IsFaultFor (IsWornAt (plan.stream s).source (λ a. IsTimeWorn a (stream_time (plain (reverse xs) ++ h) s)) p
      ⊎ IsWornAt (plan.stream s).destination (λ a. IsTimeWorn a (stream_time (plain (reverse xs) ++ h) s)) q) fault

  -- job k has made turns of stream s between the passes p of its source and q of its destination, and ended so; the
  -- session stands for the stream then
  pub record FlowDone (s turns k : ℕ) (p q : NodePass) (session : Remembered) (end : Result FlowEnd NodeFault) (xs : List New) : Type 0 where
    pub run : IsRun k xs
    pub source : MadeAt (plan.stream s).source p (at_source xs)
    pub destination : MadeAt (plan.stream s).destination q (at_destination xs)
    pub gives : FlowGives (FlowJob s turns) xs end
    pub rises : IsStrictlyIncreasing (times_of xs)
    pub of_stream : All (λ x. IsTrue (is_of_stream x.made.entry.event s) × IsNoMissing x.made.entry.event) xs
    pub sides : All (λ x. IsTrue (is_at_source x.made.entry.event) ⊎ IsTrue (is_at_destination x.made.entry.event)) xs
    pub stands : IsSession plan (plain (reverse xs) ++ h) s session
    pub lied : FlowLied s xs end
    pub failed : FlowFailed s p q xs end
    pub sound : IsSoundEnd end → All (λ x. IsSoundEvent x.made.entry.event) xs
