-- Where all jobs of a phase have ended and all cells are closed, the jobs made all entries.
use Rattle.std.proofs.Common.{◌≡◌, ℕ, ◌+◌, ◌<◌, ◌≤◌, List, [], ◌∷◌, Contains, inl, inr, refl, sym, ap, ◌∙◌, subst, get_or, length, map, arith}
use Rattle.std.specs.Prelude.{Ok, Result, Some, slice_get}
use Rattle.pr_flow.specs.declared.stop.Stop.{Stop}
use Rattle.pr_flow.specs.declared.stop.Stop.TheVariants as stops
use Rattle.pr_merge.specs.Phases.{EachGives, EachGivesAs}
use Rattle.pr_script.specs.declared.owner.Owner.{Owner}
use Rattle.pr_script.specs.Steps.{Numbered, owners_of}
use Rattle.pr_stamps.specs.declared.no_memory.NoMemory.{NoMemory}
use Rattle.pr_story.specs.declared.entry.Entry.{Entry}
use Rattle.pr_story.specs.History.{NodeEntry, Plan}
use Rattle.pr_story.specs.Merging.{AreApart, New, just, plain}
use Rattle.pr_story.specs.Phases.{IsApartJob, JobGivesAs}
use Rattle.pr_story.specs.Scripts.{JobGives}
use Rattle.pr_text.specs.Steps.{client_job, job_of, jobs_of, stream_job}
use Rattle.pr_wires.specs.Calls.{WireState}
use Rattle.pr_crew.specs.declared.task.Task.{Task}
use Rattle.pr_crew.specs.Jobs.{own}
use Rattle.pr_crew.specs.Making.{NodeCell, NodePass}
use Rattle.pr_crew.specs.Phases.{is_went}
use Rattle.pr_crew.specs.Tasks.{first_stop, numbers_of, passes_at, stop_of, work_of}
use Rattle.pr_crew.specs.Works.{all_at}
use Rattle.pr_crew.proofs.Apart.{apart_at, job_apart}
use Rattle.pr_crew.proofs.Few.{callers_few, job_few, jobs_few, total}
use Rattle.pr_crew.specs.Leaving.{IsLeft}
use Rattle.pr_crew.proofs.Finished.{FinishedHaveMade, HaveFinished, HaveMade}
use Rattle.pr_crew.proofs.Giving.{all_went, as_many, each_as, each_gives, job_as, owner_at, stop_at, task_at}
use Rattle.pr_crew.proofs.Joined.{number_in}
use Rattle.pr_crew.proofs.OfTasks.{at_or_past, in_task}
use Rattle.pr_crew.proofs.Owning.{crossed, each, jobs, made_by, none}
use Rattle.pr_crew.proofs.Seen.{has_caller, own_same}

length_just : (xs : List New) → length (just xs) ≡ length xs
length_just [] = refl
length_just (x ∷ xs) =
    let rest : length (just xs) ≡ length xs = length_just xs in
    let a : length (x.made.entry ∷ just xs) ≡ length (just xs) + 1 = omega arith in
    let b : length (x ∷ xs) ≡ length xs + 1 = omega arith in
    omega arith

from_zero : (i : ℕ) → i ≡ 0 + i
from_zero i = omega arith

module _ {W : Type 0} {state : W → WireState} (plan : Plan) (h : List NodeEntry) (inside : List Numbered) (count : ℕ) (cells : List NodeCell) (ts : List (Task W)) (nodes : ℕ → List Entry) (f : HaveFinished state plan h inside count cells ts nodes) where
  abbrev os : List Owner
  os = owners_of inside

  abbrev own_of : ℕ → List New
  own_of k = jobs plan h inside count cells ts nodes f k

  abbrev stop : ℕ → Result Stop NoMemory
  stop k = get_or (map stop_of ts) k (Ok stops.Went)

  -- ---- no client and no stream is in two jobs

  apart_jobs : (k : ℕ) → AreApart (stream_job inside) (client_job inside) (own_of k)
  apart_jobs k = elim (at_or_past ts k) [
    | inl t ↦ (let o = owner_at plan h count inside os ts f.works k t.0 t.1 in
        let a : IsApartJob h (stream_job inside) (client_job inside) k (job_of inside o.0) =
        subst (λ (i : ℕ). IsApartJob h (stream_job inside) (client_job inside) i (job_of inside o.0)) (sym (from_zero k))
        (apart_at h inside (stream_job inside) (client_job inside) os 0 f.apart k o.0 o.1) in
        job_apart plan h inside count cells k o.0 t.0 (own_of k) o.1 o.2 (each plan h inside count cells ts nodes f k t.0 t.1) a)
    | inr past ↦ subst (λ (xs : List New). AreApart (stream_job inside) (client_job inside) xs) (sym (none plan h inside count cells ts nodes f k past)) tt
  ]

  -- ---- what the jobs gave

  past_all : (m : ℕ) → 0 + length os ≤ m → own_of m ≡ []
  past_all m le = let many : length os ≡ length ts = as_many plan h count inside os ts f.works in none plan h inside count cells ts nodes f m (omega arith)

  given : (i : ℕ) (o : Owner) → slice_get os i ≡ Some o → JobGivesAs (is_went (stop i)) (job_of inside o) (plain (own_of i))
  given i o is =
      let t = task_at plan h count inside os ts f.works i o is in
      subst (λ (s : Result Stop NoMemory). JobGivesAs (is_went s) (job_of inside o) (plain (own_of i))) (sym (stop_at ts i t.0 t.1))
      (job_as plan h inside count cells i o t.0 (own_of i) t.2 (each plan h inside count cells ts nodes f i t.0 t.1))

  all_begun : EachGivesAs (λ k. is_went (stop k)) (jobs_of inside) 0 (jobs plan h inside count cells ts nodes f)
  all_begun = each_as inside (jobs plan h inside count cells ts nodes f) (λ k. is_went (stop k)) os 0
      (λ i o is. subst (λ (j : ℕ). JobGivesAs (is_went (stop j)) (job_of inside o) (plain (own_of j))) (from_zero i) (given i o is)) past_all

  all_gave : first_stop (map stop_of ts) ≡ Ok stops.Went → EachGives JobGives (jobs_of inside) 0 (jobs plan h inside count cells ts nodes f)
  all_gave went = each_gives inside (jobs plan h inside count cells ts nodes f) os 0
      (λ i o is.
      let t = task_at plan h count inside os ts f.works i o is in
      let stopped : stop i ≡ Ok stops.Went = stop_at ts i t.0 t.1 ∙ all_went ts went i t.0 t.1 in
      let gave : JobGives (job_of inside o) (plain (own_of i)) = subst (λ (s : Result Stop NoMemory). JobGivesAs (is_went s) (job_of inside o) (plain (own_of i))) stopped (given i o is) in
      subst (λ (j : ℕ). JobGives (job_of inside o) (plain (own_of j))) (from_zero i) gave) past_all

  -- ---- how many entries there are

  few_at : (n : ℕ) → n < count → length (nodes n) ≤ all_at (map work_of ts) n
  few_at n lt =
      let l : IsLeft plan h cells ts n (nodes n) = f.left n lt in
      let ps : List NodePass = passes_at ts n in
      let callers : length (nodes n) ≤ total (nodes n) ps = callers_few ps (nodes n) (λ e has.
      let c = has_caller plan h cells ts n (nodes n) l e has in
      subst (λ (k : ℕ). Contains (numbers_of ps) k) c.2 (number_in ps c.0 c.1)) in
      let all : total (nodes n) ps ≤ all_at (map work_of ts) n = jobs_few n (λ (q : NodePass). length (own q.number (nodes n))) ts (λ k t is.
      let o = owner_at plan h count inside os ts f.works k t is in
      job_few plan h inside count cells k n (λ (q : NodePass). length (own q.number (nodes n))) o.0 t (own_of k) o.2 (each plan h inside count cells ts nodes f k t is)
      (λ q ys has made. ap (λ (es : List Entry). length es) (own_same plan h cells ts n (nodes n) l q ys (in_task n ts k t q is has) made) ∙ length_just ys)) in
      omega arith

  have_made : HaveMade state plan h inside count cells ts nodes (jobs plan h inside count cells ts nodes f)
  have_made = record {
    made = made_by plan h inside count cells ts nodes f;
    each = each plan h inside count cells ts nodes f;
    crossed = crossed plan h inside count cells ts nodes f;
    none = none plan h inside count cells ts nodes f;
    apart = apart_jobs;
    begun = all_begun;
    whole = all_gave;
    few = few_at;
  }

pub finished_have_made : FinishedHaveMade
finished_have_made W state plan h inside count cells ts nodes f = (jobs plan h inside count cells ts nodes f, have_made plan h inside count cells ts nodes f)
