-- The order of the entries that the jobs of a phase make beside each other. Lists stand here in order, the oldest first.
use Rattle.std.specs.Prelude.{ℕ, List, [], ◌∷◌, ◌++◌, ◌≡◌, ◌≤◌, ◌+◌, ◌↔◌, AllPairs, Bool, Contains, map, reverse, slice_get, slice_index_or, All}
use Rattle.std.specs.List.{filter_map}
use Rattle.std.specs.List.Sorted.{IsStrictlyIncreasing}
use Rattle.pr_story.specs.History.{NodeEntry, Plan}
use Rattle.pr_story.specs.Lawful.{Valid}
use Rattle.pr_story.specs.Merging.{New, plain, of_node, of_job, IsNodeRun, IsJobRun, AreApart}
use Rattle.pr_story.specs.Scripts.{Job, JobBegins, JobEntry, JobGives, IsPhase, Precedes, ByTime}
use Rattle.pr_story.specs.Scripts as scripts
use Rattle.pr_story.specs.Phases.{IsPhaseAs, JobGivesAs}
use Rattle.pr_merge.specs.Merged.{IsMerged}

abbrev pub times_of : List New → List ℕ
times_of xs = map (λ x. x.made.entry.time) xs

abbrev pub job_entries : List New → List JobEntry
job_entries xs = map (λ x. record { job = x.job; made = x.made }) xs

-- node n's own list, of each node's
abbrev pub list_of : List (List New) → ℕ → List New
list_of nodes n = slice_index_or nodes n []

-- the entries at the places, of each node's own list
abbrev pub entries_at : List (List New) → List (ℕ × ℕ) → List New
entries_at nodes places = filter_map (λ p. slice_get (list_of nodes p.0) p.1) places

-- own has those of the entries of which P holds, and their times rise
pub record IsOwnList (P : New → Type 0) (entries own : List New) : Type 0 where
  pub each : (x : New) → Contains own x ↔ (Contains entries x × P x)
  pub rises : IsStrictlyIncreasing (times_of own)

-- the entries, newest first as where jobs merge, and in order as in a phase, keep each node's own list and each job's
pub record KeepsOrders (entries : List New) (nodes jobs : ℕ → List New) : Type 0 where
  pub of_nodes : (n : ℕ) → of_node (reverse entries) n ≡ reverse (nodes n)
  pub of_jobs : (k : ℕ) → of_job (reverse entries) k ≡ reverse (jobs k)
  pub in_phase : (k : ℕ) → scripts.of_job (job_entries entries) k ≡ plain (jobs k)

-- the order by time, then node, keeps each node's own list and each job's, where in each the times rise
abbrev pub TimeKeepsOrders : Type 0
TimeKeepsOrders =
    (entries : List New) (nodes jobs : ℕ → List New) → AllPairs (Precedes ByTime) (job_entries entries)
    → ((n : ℕ) → IsOwnList (λ x. x.made.node ≡ n) entries (nodes n)) → ((k : ℕ) → IsOwnList (λ x. x.job ≡ k) entries (jobs k))
    → KeepsOrders entries nodes jobs

-- the entries stand by time, then node, and each node's list is its own
pub record StandByTime (entries : List New) (nodes : List (List New)) : Type 0 where
  pub by_time : AllPairs (Precedes ByTime) (job_entries entries)
  pub own : (n : ℕ) → IsOwnList (λ x. x.made.node ≡ n) entries (list_of nodes n)

-- so do those at the merged places, where each list is of its own node and its times rise
abbrev pub MergedStandByTime : Type 0
MergedStandByTime =
    (nodes : List (List New)) (places : List (ℕ × ℕ)) → All IsStrictlyIncreasing (map times_of nodes)
    → ((n : ℕ) → All (λ x. x.made.node ≡ n) (list_of nodes n)) → IsMerged (map times_of nodes) places
    → StandByTime (entries_at nodes places) nodes

-- each job of the phase, the first one with number k, gives its own list, and there are no other jobs
abbrev pub EachGives : (Job → List NodeEntry → Type 0) → List Job → ℕ → (ℕ → List New) → Type 0
EachGives P [] k jobs = (m : ℕ) → k ≤ m → jobs m ≡ []
EachGives P (job ∷ phase) k jobs = P job (plain (jobs k)) × EachGives P phase (k + 1) jobs

-- those of the jobs that are whole give their lists, and the others a beginning of them
abbrev pub EachGivesAs : (ℕ → Bool) → List Job → ℕ → (ℕ → List New) → Type 0
EachGivesAs whole [] k jobs = (m : ℕ) → k ≤ m → jobs m ≡ []
EachGivesAs whole (job ∷ phase) k jobs = JobGivesAs (whole k) job (plain (jobs k)) × EachGivesAs whole phase (k + 1) jobs

-- each node's own list and each job's is lawful after h, and no client and no stream is used by two jobs
pub record AreLawful (plan : Plan) (h : List NodeEntry) (nodes jobs : ℕ → List New) (streams clients : ℕ → ℕ) : Type 0 where
  pub valid : Valid plan h
  pub of_nodes : (n : ℕ) → IsNodeRun plan h n (reverse (nodes n))
  pub of_jobs : (k : ℕ) → IsJobRun plan h (reverse (jobs k))
  pub apart : (k : ℕ) → AreApart streams clients (jobs k)

-- the entries keep the history valid where the lists are lawful, and are a phase whose jobs gave the lists, or were cut off in them
pub record IsMergedPhase (entries : List New) (nodes jobs : ℕ → List New) : Type 0 where
  pub valid : (plan : Plan) (h : List NodeEntry) (streams clients : ℕ → ℕ) → AreLawful plan h nodes jobs streams clients → Valid plan (plain (reverse entries) ++ h)
  pub whole : (phase : List Job) → EachGives JobGives phase 0 jobs → IsPhase JobGives ByTime phase (plain entries)
  pub begun : (phase : List Job) → EachGives JobBegins phase 0 jobs → IsPhase JobBegins ByTime phase (plain entries)
  pub marked : (wholes : ℕ → Bool) (phase : List Job) → EachGivesAs wholes phase 0 jobs → IsPhaseAs wholes ByTime phase (plain entries)

-- entries that stand by time, then node, are so where the times of each job's own list rise
abbrev pub PhasesMerge : Type 0
PhasesMerge =
    (entries : List New) (nodes : List (List New)) (jobs : ℕ → List New) → StandByTime entries nodes
    → ((k : ℕ) → IsOwnList (λ x. x.job ≡ k) entries (jobs k)) → IsMergedPhase entries (list_of nodes) jobs
