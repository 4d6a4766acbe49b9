-- Which flows may go down for their wires, or be told other bytes than were put.
use Rattle.std.specs.Prelude.{ℕ, List, [], ◌∷◌, ◌≡◌, ◌⊎◌, ◌+◌, Bool, false, Result, Ok, length}
use Rattle.std.specs.List.{AllByRecursion, flat_map}
use Rattle.pr_story.specs.declared.cause.Cause.TheVariants.{Failed, Ended}
use Rattle.pr_story.specs.declared.event.Event.{Event}
use Rattle.pr_story.specs.declared.event.Event.TheVariants.{Down}
use Rattle.pr_story.specs.History.{NodeEntry}
use Rattle.pr_story.specs.Scripts.{ClientJob, Flow, FlowJob, Job, Line, Phase}
use Rattle.pr_flow.specs.declared.stop.Stop.{Stop}
use Rattle.pr_flow.specs.declared.stop.Stop.TheVariants as stops

-- where the event says that a flow went down as its wire failed or ended, its stream is one of these
abbrev pub IsDownOf : (ℕ → Type 0) → Event → Type 0
IsDownOf P (Down s Failed) = P s
IsDownOf P (Down s Ended) = P s
IsDownOf P event = Unit {0}

-- so it is in each entry
abbrev pub AreDownsOf : (ℕ → Type 0) → List NodeEntry → Type 0
AreDownsOf P es = AllByRecursion (λ (e : NodeEntry). IsDownOf P e.entry.event) es

-- other bytes were told for a flow of one of these streams alone
abbrev pub IsLieAt : {E : Type 0} → (ℕ → Type 0) → Result Stop E → Type 0
IsLieAt P (Ok (stops.Lied stream number sent got)) = P stream
IsLieAt P _ = Unit {0}

-- the streams that flow, in order, each over a connection of its own
abbrev pub flow_of : Job → List ℕ
flow_of (ClientJob commands) = []
flow_of (FlowJob s turns) = s ∷ []

abbrev pub flows_of : Line → List ℕ
flows_of (Flow s turns) = s ∷ []
flows_of (Phase jobs) = flat_map flow_of jobs
flows_of line = []

-- one of these flows is of the stream x, and its connection is not sound, where so many were made before
abbrev pub IsUnsoundFor : (ℕ → Bool) → ℕ → List ℕ → ℕ → Type 0
IsUnsoundFor sound made [] x = ⊥
IsUnsoundFor sound made (s ∷ streams) x = ((s ≡ x) × (sound (made + 1) ≡ false)) ⊎ IsUnsoundFor sound (made + 1) streams x

-- a connection was made for each of these flows where all went its way, and other bytes came for one alone whose
-- connection is not sound
module _ {W : Type 0} (made : W → ℕ) (sound : W → ℕ → Bool) where
  pub record GoesOver {E : Type 0} (flows : List ℕ) (before now : W) (stop : Result Stop E) : Type 0 where
    pub each_made : stop ≡ Ok stops.Went → made now ≡ made before + length flows
    pub lie : IsLieAt (IsUnsoundFor (sound before) (made before) flows) stop
