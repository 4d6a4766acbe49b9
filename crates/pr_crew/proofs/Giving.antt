-- What each job of a phase gave, owner by owner.
use Rattle.std.proofs.Common.{◌≡◌, ℕ, zero, suc, ◌+◌, ◌≤◌, List, [], ◌∷◌, refl, sym, ap, subst, length, get_or, map, arith}
use Rattle.std.specs.Prelude.{Bool, Some, Result, Ok, Err, slice_get}
use Rattle.pr_flow.specs.declared.flow_end.FlowEnd.{FlowEnd}
use Rattle.pr_flow.specs.declared.flow_end.FlowEnd.TheVariants as ends
use Rattle.pr_flow.specs.declared.stop.Stop.{Stop}
use Rattle.pr_flow.specs.declared.stop.Stop.TheVariants as stops
use Rattle.pr_inval.specs.declared.node_fault.NodeFault.{NodeFault}
use Rattle.pr_inval.specs.declared.node_fault.NodeFault.TheVariants as faults
use Rattle.pr_merge.specs.Phases.{EachGives, EachGivesAs}
use Rattle.pr_script.specs.declared.owner.Owner.{Owner}
use Rattle.pr_script.specs.declared.owner.Owner.TheVariants as owner
use Rattle.pr_script.specs.Steps.{Numbered}
use Rattle.pr_stamps.specs.declared.no_memory.NoMemory.{NoMemory}
use Rattle.pr_story.specs.History.{NodeEntry, Plan}
use Rattle.pr_story.specs.Merging.{New, plain}
use Rattle.pr_story.specs.Phases.{JobGivesAs}
use Rattle.pr_story.specs.Scripts.{FlowJob, Job, JobGives}
use Rattle.pr_text.specs.Steps.{job_of}
use Rattle.pr_crew.specs.declared.task.Task.{Task}
use Rattle.pr_crew.specs.declared.task.Task.TheVariants as tasks
use Rattle.pr_crew.specs.Jobs.{FlowGives, Gives}
use Rattle.pr_crew.specs.Making.{NodeCell}
use Rattle.pr_crew.specs.Phases.{is_went}
use Rattle.pr_crew.specs.Tasks.{IsDone, first_of_two, first_stop, stop_of, stop_of_client, stop_of_flow, work_of}
use Rattle.pr_crew.specs.Works.{AreWorks, IsWork}
use Rattle.pr_crew.proofs.Seen.{some_same}

-- ---- a job and how it stopped

client_as : (job : Job) (xs : List New) (end : Result (Unit {0}) NodeFault) → Gives job xs end → JobGivesAs (is_went (stop_of_client end)) job (plain xs)
client_as job xs (Ok done) gives = gives
client_as job xs (Err faults.NoMemory) gives = gives
client_as job xs (Err (faults.Worn at)) gives = gives

flow_as : (stream : ℕ) (job : Job) (xs : List New) (end : Result FlowEnd NodeFault) → FlowGives job xs end → JobGivesAs (is_went (stop_of_flow stream end)) job (plain xs)
flow_as stream job xs (Ok ends.Done) gives = gives
flow_as stream job xs (Ok ends.Stale) gives = gives
flow_as stream job xs (Ok (ends.Down cause)) gives = gives
flow_as stream job xs (Ok (ends.Lied number sent got)) gives = gives
flow_as stream job xs (Err faults.NoMemory) gives = gives
flow_as stream job xs (Err (faults.Worn at)) gives = gives

-- the owner's job gave all where it went its way, and else a beginning
pub job_as : {W : Type 0} (plan : Plan) (h : List NodeEntry) (inside : List Numbered) (count : ℕ) (cells : List NodeCell) (k : ℕ) (o : Owner) (t : Task W) (xs : List New)
    → IsWork plan h count inside o (work_of t) → IsDone plan h inside cells k t xs → JobGivesAs (is_went (stop_of t)) (job_of inside o) (plain xs)
job_as plan h inside count cells k (owner.Client client) (tasks.Client t) xs w d =
    subst (λ (c : ℕ). JobGivesAs (is_went (stop_of_client t.end)) (job_of inside (owner.Client c)) (plain xs)) w.client_is (client_as (job_of inside (owner.Client t.work.client)) xs t.end d.done.gives)
job_as plan h inside count cells k (owner.Stream stream) (tasks.Flow t) xs w d =
    subst (λ (job : Job). JobGivesAs (is_went (stop_of_flow t.work.stream t.end)) job (plain xs)) (λ i. FlowJob (w.stream_is i) (w.turns_are i))
    (flow_as t.work.stream (FlowJob t.work.stream t.work.turns) xs t.end d.done.gives)
job_as plan h inside count cells k (owner.Client client) (tasks.Flow t) xs w d = absurd w
job_as plan h inside count cells k (owner.Stream stream) (tasks.Client t) xs w d = absurd w

-- ---- owners and tasks, place by place

module _ {W : Type 0} (plan : Plan) (h : List NodeEntry) (count : ℕ) (inside : List Numbered) where
  abbrev Works : List Owner → List (Task W) → Type 0
  Works os ts = AreWorks plan h count inside os (map work_of ts)

  no_task : (t : Task W) (ts : List (Task W)) → Works [] (t ∷ ts) → ⊥
  no_task t ts all = let bad : work_of t ∷ map work_of ts ≡ [] = all in cc

  pub owner_at : (os : List Owner) (ts : List (Task W)) → Works os ts → (k : ℕ) (t : Task W) → slice_get ts k ≡ Some t → (o : Owner) × (slice_get os k ≡ Some o) × IsWork plan h count inside o (work_of t)
  owner_at os [] all k t is = absurd (cc)
  owner_at [] (u ∷ ts) all k t is = absurd (no_task u ts all)
  owner_at (o ∷ os) (u ∷ ts) all zero t is = (o, refl, subst (λ (v : Task W). IsWork plan h count inside o (work_of v)) (some_same u t is) all.0)
  owner_at (o ∷ os) (u ∷ ts) all (suc k) t is = owner_at os ts all.1 k t is

  pub task_at : (os : List Owner) (ts : List (Task W)) → Works os ts → (k : ℕ) (o : Owner) → slice_get os k ≡ Some o → (t : Task W) × (slice_get ts k ≡ Some t) × IsWork plan h count inside o (work_of t)
  task_at [] ts all k o is = absurd (cc)
  task_at (p ∷ os) [] all k o is = absurd all
  task_at (p ∷ os) (u ∷ ts) all zero o is = (u, refl, subst (λ (v : Owner). IsWork plan h count inside v (work_of u)) (some_same p o is) all.0)
  task_at (p ∷ os) (u ∷ ts) all (suc k) o is = task_at os ts all.1 k o is

  pub as_many : (os : List Owner) (ts : List (Task W)) → Works os ts → length os ≡ length ts
  as_many [] [] all = refl
  as_many [] (u ∷ ts) all = absurd (no_task u ts all)
  as_many (p ∷ os) [] all = absurd all
  as_many (p ∷ os) (u ∷ ts) all =
      let more : length os ≡ length ts = as_many os ts all.1 in
      let a : length (p ∷ os) ≡ length os + 1 = omega arith in
      let b : length (u ∷ ts) ≡ length ts + 1 = omega arith in
      omega arith

-- ---- the jobs of all owners

module _ (inside : List Numbered) (jobs : ℕ → List New) where
  next_place : (k i : ℕ) → k + 1 + i ≡ k + suc i
  next_place k i = omega arith

  pub each_as : (whole : ℕ → Bool) (os : List Owner) (k : ℕ) → ((i : ℕ) (o : Owner) → slice_get os i ≡ Some o → JobGivesAs (whole (k + i)) (job_of inside o) (plain (jobs (k + i))))
      → ((m : ℕ) → k + length os ≤ m → jobs m ≡ []) → EachGivesAs whole (map (job_of inside) os) k jobs
  each_as whole [] k each none = λ m le. none m (omega arith)
  each_as whole (o ∷ os) k each none =
      let here : k + 0 ≡ k = omega arith in (
        subst (λ (i : ℕ). JobGivesAs (whole i) (job_of inside o) (plain (jobs i))) here (each 0 o refl),
        each_as whole os (k + 1)
            (λ i p is. subst (λ (j : ℕ). JobGivesAs (whole j) (job_of inside p) (plain (jobs j))) (sym (next_place k i)) (each (suc i) p is))
            (λ m le. none m (omega arith)),
      )

  pub each_gives : (os : List Owner) (k : ℕ) → ((i : ℕ) (o : Owner) → slice_get os i ≡ Some o → JobGives (job_of inside o) (plain (jobs (k + i))))
      → ((m : ℕ) → k + length os ≤ m → jobs m ≡ []) → EachGives JobGives (map (job_of inside) os) k jobs
  each_gives [] k each none = λ m le. none m (omega arith)
  each_gives (o ∷ os) k each none =
      let here : k + 0 ≡ k = omega arith in (
        subst (λ (i : ℕ). JobGives (job_of inside o) (plain (jobs i))) here (each 0 o refl),
        each_gives os (k + 1)
            (λ i p is. subst (λ (j : ℕ). JobGives (job_of inside p) (plain (jobs j))) (sym (next_place k i)) (each (suc i) p is))
            (λ m le. none m (omega arith)),
      )

-- ---- how all stopped

abbrev went : Result Stop NoMemory
went = Ok stops.Went

two_went : (a b : Result Stop NoMemory) → first_of_two a b ≡ went → (a ≡ went) × (b ≡ went)
two_went (Ok stops.Went) b is = (refl, is)
two_went (Ok _) b is = absurd (cc)
two_went (Err e) b is = absurd (cc)

-- where the first stop is that all went their way, each did
pub all_went : {W : Type 0} (ts : List (Task W)) → first_stop (map stop_of ts) ≡ went → (k : ℕ) (t : Task W) → slice_get ts k ≡ Some t → stop_of t ≡ went
all_went [] is k t at = absurd (cc)
all_went (u ∷ ts) is zero t at = subst (λ v. stop_of v ≡ went) (some_same u t at) (two_went (stop_of u) (first_stop (map stop_of ts)) is).0
all_went (u ∷ ts) is (suc k) t at = all_went ts (two_went (stop_of u) (first_stop (map stop_of ts)) is).1 k t at

pub stop_at : {W : Type 0} (ts : List (Task W)) (k : ℕ) (t : Task W) → slice_get ts k ≡ Some t → get_or (map stop_of ts) k went ≡ stop_of t
stop_at [] k t at = absurd (cc)
stop_at (u ∷ ts) zero t at = ap (λ v. stop_of v) (some_same u t at)
stop_at (u ∷ ts) (suc k) t at = stop_at ts k t at
