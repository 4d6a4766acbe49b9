-- What the jobs of a phase made beside each other, put together: the entries of all nodes by time, then node.
use Rattle.std.specs.Prelude.{ℕ, List, [], ◌∷◌, ◌++◌, ◌≡◌, ◌≤◌, ◌+◌, ◌⊎◌, Bool, Contains, Option, Some, None, filter, length, map, reverse, slice_get}
use Rattle.std.specs.List.{range_with_len}
use Rattle.std.specs.List.Sorted.{IsStrictlyIncreasing}
use Rattle.pr_merge.specs.Merged.{IsMerged}
use Rattle.pr_merge.specs.Phases.{EachGives, EachGivesAs, times_of}
use Rattle.pr_story.specs.declared.entry.Entry.{Entry}
use Rattle.pr_story.specs.History.{NodeEntry, Plan, journal}
use Rattle.pr_story.specs.Lawful.{Valid}
use Rattle.pr_story.specs.Merging.{AreApart, IsJobRun, New, just, of_job, plain}
use Rattle.pr_story.specs.Phases.{IsPhaseAs}
use Rattle.pr_story.specs.Places.{places_of}
use Rattle.pr_story.specs.Scripts.{ByTime, IsPhase, Job, JobBegins, JobGives}
use Rattle.pr_crew.specs.Jobs.{IsNew}

-- ---- what was made

module _ (plan : Plan) (h : List NodeEntry) (nodes : ℕ → List Entry) (jobs : ℕ → List New) where
  -- the job's entries are some of one node's, in its order
  abbrev pub IsOfOneNode : List New → Type 0
  IsOfOneNode xs = (n : ℕ) × (chosen : Entry → Bool) × (just xs ≡ filter chosen (nodes n))

  -- after the valid history h each node made its list of entries, the oldest first, and each job its own: each entry of a
  -- node is a job's, and lawful behind those before it, and each entry of a job is its node's
  pub record AreMadeBy : Type 0 where
    pub valid : Valid plan h
    pub each : (n : ℕ) (before : List Entry) (e : Entry) (after : List Entry) → nodes n ≡ before ++ e ∷ after
        → (x : New) × Contains (jobs x.job) x × IsNew plan h n before e x
    pub own : (k : ℕ) (x : New) → Contains (jobs k) x → (x.job ≡ k) × Contains (nodes x.made.node) x.made.entry
    -- no entry is made by two jobs
    pub apart : (k m : ℕ) (x y : New) → Contains (jobs k) x → Contains (jobs m) y → x.made ≡ y.made → k ≡ m
    -- the times of a job's entries rise, or it stays at one node
    pub rise : (k : ℕ) → IsStrictlyIncreasing (times_of (jobs k)) ⊎ IsOfOneNode (jobs k)
    pub runs : (k : ℕ) → IsJobRun plan h (reverse (jobs k))

-- ---- put together

-- the times of the entries of each of so many nodes
abbrev pub parts_of : (ℕ → List Entry) → ℕ → List (List ℕ)
parts_of nodes count = map (λ n. map (λ (e : Entry). e.time) (nodes n)) (range_with_len 0 count)

abbrev pub with_entry : ℕ → Option Entry → List NodeEntry → List NodeEntry
with_entry n None rest = rest
with_entry n (Some e) rest = record { node = n; entry = e } ∷ rest

-- the entries at these places of the nodes' lists
abbrev pub made_at : (ℕ → List Entry) → List (ℕ × ℕ) → List NodeEntry
made_at nodes [] = []
made_at nodes (p ∷ ps) = with_entry p.0 (slice_get (nodes p.0) p.1) (made_at nodes ps)

-- the entries at these places keep the history valid where no client and no stream is in two jobs, and are a phase of the
-- jobs
pub record IsAssembled (plan : Plan) (h : List NodeEntry) (nodes : ℕ → List Entry) (jobs : ℕ → List New) (places : List (ℕ × ℕ)) : Type 0 where
  pub valid : (streams clients : ℕ → ℕ) → ((k : ℕ) → AreApart streams clients (jobs k)) → Valid plan (reverse (made_at nodes places) ++ h)
  pub whole : (phase : List Job) → EachGives JobGives phase 0 jobs → IsPhase JobGives ByTime phase (made_at nodes places)
  pub begun : (phase : List Job) → EachGives JobBegins phase 0 jobs → IsPhase JobBegins ByTime phase (made_at nodes places)
  pub marked : (wholes : ℕ → Bool) (phase : List Job) → EachGivesAs wholes phase 0 jobs → IsPhaseAs wholes ByTime phase (made_at nodes places)
  pub journals : (n : ℕ) → journal (reverse (made_at nodes places) ++ h) n ≡ reverse (nodes n) ++ journal h n
  -- they are the jobs' own, newest first
  pub merged : (all : List New) × (plain all ≡ reverse (made_at nodes places)) × ((k : ℕ) → of_job all k ≡ reverse (jobs k))
  -- they stand in the journals behind what was there
  pub places_are : places_of (reverse (made_at nodes places) ++ h) ≡ places_of h ++ map (λ (p : ℕ × ℕ). (p.0, length (journal h p.0) + p.1)) places

-- so do those at the merged places
abbrev pub PhasesAreAssembled : Type 0
PhasesAreAssembled =
    (plan : Plan) (h : List NodeEntry) (nodes : ℕ → List Entry) (jobs : ℕ → List New) (count : ℕ) (places : List (ℕ × ℕ))
    → AreMadeBy plan h nodes jobs → ((n : ℕ) → count ≤ n → nodes n ≡ []) → IsMerged (parts_of nodes count) places
    → IsAssembled plan h nodes jobs places
