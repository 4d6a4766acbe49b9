-- Jobs beside each other. The new entries stand in one list, newest first, in any order that keeps that of each node and of each job.
use Rattle.std.specs.Prelude.{ℕ, List, [], ◌∷◌, ◌++◌, ◌≡◌, ◌<◌, cond, nat_eq, IsTrue}
use Rattle.pr_story.specs.declared.entry.Entry.{Entry}
use Rattle.pr_story.specs.declared.event.Event.{Event}
use Rattle.pr_story.specs.declared.event.Event.TheVariants.{Missing}
use Rattle.pr_story.specs.History.{Plan, NodeEntry, journal}
use Rattle.pr_story.specs.Clients.{is_of_client, is_with_needs, client_vector}
use Rattle.pr_inval.specs.Standing.{Standing}
use Rattle.pr_story.specs.Turns.{is_of_stream, is_with_session}
use Rattle.pr_story.specs.Lawful.{IsPlaced, HasCause, IsOwnLawful}
use Rattle.pr_story.specs.Laws.{StandsFor}

-- a new entry, its job, and how its stream stood and what its client had seen for that job when it was made
pub record New : Type 0 where
  pub job : ℕ
  pub session : Standing
  pub needs : List ℕ
  pub made : NodeEntry

abbrev pub plain : List New → List NodeEntry
plain [] = []
plain (x ∷ t) = x.made ∷ plain t

abbrev pub just : List New → List Entry
just [] = []
just (x ∷ t) = x.made.entry ∷ just t

abbrev pub of_job : List New → ℕ → List New
of_job [] k = []
of_job (x ∷ t) k = cond (nat_eq x.job k) (x ∷ of_job t k) (of_job t k)

abbrev pub of_node : List New → ℕ → List New
of_node [] n = []
of_node (x ∷ t) n = cond (nat_eq x.made.node n) (x ∷ of_node t n) (of_node t n)

-- each entry of the node is lawful after those that the node has in h and its earlier new ones
abbrev pub IsNodeRun : Plan → List NodeEntry → ℕ → List New → Type 0
IsNodeRun plan h n [] = Unit {0}
IsNodeRun plan h n (x ∷ t) = IsOwnLawful (λ s. x.session) (λ c. x.needs) (plan.sets n) n (just t ++ journal h n) x.made.entry × IsNodeRun plan h n t

-- each entry of the job is at its node, has its cause in h or in the job, and its stream stands and its client has seen as h and the job say
abbrev pub IsJobRun : Plan → List NodeEntry → List New → Type 0
IsJobRun plan h [] = Unit {0}
IsJobRun plan h (x ∷ t) =
    ((x.made.node < 32) × IsPlaced plan (plain t ++ h) x.made.node x.made.entry.event × HasCause (plain t ++ h) x.made.node x.made.entry.event
    × ((s : ℕ) → IsTrue (is_with_session x.made.entry.event s) → StandsFor plan (plain t ++ h) s x.session)
    × ((c : ℕ) → IsTrue (is_with_needs x.made.entry.event c) → x.needs ≡ client_vector (plain t ++ h) c))
    × IsJobRun plan h t

abbrev pub IsNoMissing : Event → Type 0
IsNoMissing (Missing s number) = ⊥
IsNoMissing _ = Unit {0}

-- each stream and each client is used by its own job alone, and no entry is a Missing
abbrev pub AreApart : (ℕ → ℕ) → (ℕ → ℕ) → List New → Type 0
AreApart streams clients [] = Unit {0}
AreApart streams clients (x ∷ t) =
    (IsNoMissing x.made.entry.event
    × ((s : ℕ) → IsTrue (is_of_stream x.made.entry.event s) → x.job ≡ streams s)
    × ((c : ℕ) → IsTrue (is_of_client x.made.entry.event c) → x.job ≡ clients c))
    × AreApart streams clients t
