-- What stands when all jobs of a phase have ended and all cells are closed.
use Rattle.std.proofs.Common.{◌≡◌, ℕ, ◌≤◌, ◌<◌, List, [], length, map}
use Rattle.std.specs.Prelude.{Some, Ok, get_or, slice_get}
use Rattle.std.specs.List.{range_with_len}
use Rattle.pr_flow.specs.declared.stop.Stop.TheVariants as stops
use Rattle.pr_merge.specs.Phases.{EachGives, EachGivesAs}
use Rattle.pr_script.specs.Steps.{Numbered, owners_of}
use Rattle.pr_story.specs.declared.entry.Entry.{Entry}
use Rattle.pr_story.specs.History.{NodeEntry, Plan}
use Rattle.pr_story.specs.Lawful.{Valid}
use Rattle.pr_story.specs.Merging.{AreApart, New}
use Rattle.pr_story.specs.Phases.{AreApartJobs}
use Rattle.pr_story.specs.Scripts.{JobGives}
use Rattle.pr_text.specs.Steps.{client_job, jobs_of, stream_job}
use Rattle.pr_crew.specs.declared.task.Task.{Task}
use Rattle.pr_wires.specs.Calls.{WireState}
use Rattle.pr_crew.specs.Assembly.{AreMadeBy}
use Rattle.pr_crew.specs.Crossing.{JobCrosses}
use Rattle.pr_crew.specs.Making.{NodeCell}
use Rattle.pr_crew.specs.Phases.{is_went}
use Rattle.pr_crew.specs.Leaving.{IsLeft}
use Rattle.pr_crew.specs.Tasks.{IsDone, first_stop, numbers_of, passes_at, stop_of, work_of}
use Rattle.pr_crew.specs.Works.{AreWorks, all_at}

-- in a phase of these lines after h, over the cells of so many nodes
pub record HaveFinished {W : Type 0} (state : W → WireState) (plan : Plan) (h : List NodeEntry) (inside : List Numbered) (count : ℕ) (cells : List NodeCell) (ts : List (Task W)) (nodes : ℕ → List Entry) : Type 0 where
  pub valid : Valid plan h
  pub works : AreWorks plan h count inside (owners_of inside) (map work_of ts)
  pub done : (k : ℕ) (t : Task W) → slice_get ts k ≡ Some t → (xs : List New) × IsDone plan h inside cells k t xs × JobCrosses state t xs
  pub in_turn : (n : ℕ) → n < count → numbers_of (passes_at ts n) ≡ range_with_len 1 (length (passes_at ts n))
  pub left : (n : ℕ) → n < count → IsLeft plan h cells ts n (nodes n)
  pub none : (n : ℕ) → count ≤ n → nodes n ≡ []
  pub apart : AreApartJobs h (stream_job inside) (client_job inside) (jobs_of inside) 0

-- each job's own entries
pub record HaveMade {W : Type 0} (state : W → WireState) (plan : Plan) (h : List NodeEntry) (inside : List Numbered) (count : ℕ) (cells : List NodeCell) (ts : List (Task W)) (nodes : ℕ → List Entry) (jobs : ℕ → List New) : Type 0 where
  pub made : AreMadeBy plan h nodes jobs
  pub each : (k : ℕ) (t : Task W) → slice_get ts k ≡ Some t → IsDone plan h inside cells k t (jobs k)
  pub crossed : (k : ℕ) (t : Task W) → slice_get ts k ≡ Some t → JobCrosses state t (jobs k)
  pub none : (k : ℕ) → length ts ≤ k → jobs k ≡ []
  pub apart : (k : ℕ) → AreApart (stream_job inside) (client_job inside) (jobs k)
  pub begun : EachGivesAs (λ k. is_went (get_or (map stop_of ts) k (Ok stops.Went))) (jobs_of inside) 0 jobs
  pub whole : first_stop (map stop_of ts) ≡ Ok stops.Went → EachGives JobGives (jobs_of inside) 0 jobs
  pub few : (n : ℕ) → n < count → length (nodes n) ≤ all_at (map work_of ts) n

-- where all finished, all was made by the jobs
abbrev pub FinishedHaveMade : Type 1
FinishedHaveMade =
    (W : Type 0) (state : W → WireState) (plan : Plan) (h : List NodeEntry) (inside : List Numbered) (count : ℕ) (cells : List NodeCell) (ts : List (Task W)) (nodes : ℕ → List Entry)
    → HaveFinished state plan h inside count cells ts nodes → (jobs : ℕ → List New) × HaveMade state plan h inside count cells ts nodes jobs
