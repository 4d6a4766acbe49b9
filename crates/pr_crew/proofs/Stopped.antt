-- How a phase ends: each job for its cause, and the phase as the first that did not go its way.
use Rattle.std.proofs.Common.{◌≡◌, ℕ, suc, ◌<◌, ◌≤◌, List, [], ◌∷◌, ◌++◌, All, Contains, refl, sym, ap, ◌∙◌, subst, length, map}
use Rattle.std.specs.Prelude.{Bool, Some, Ok, Result, get_or, reverse, slice_get}
use Rattle.std.proofs.lemmas.List.{length-map, reverse-reverse}
use Rattle.std.proofs.lemmas.List.Elements.{All-nil, All-cons, Contains-append_left, Contains-append_right}
use Rattle.pr_cell.specs.Passes.{IsPassOf}
use Rattle.pr_flow.specs.declared.stop.Stop.{Stop}
use Rattle.pr_flow.specs.declared.stop.Stop.TheVariants as stops
use Rattle.pr_flow.specs.Lies.{IsLied}
use Rattle.pr_merge.specs.Holding.{HeldState}
use Rattle.pr_node.specs.Stored.{Stored}
use Rattle.pr_script.specs.Steps.{Numbered, owners_of}
use Rattle.pr_stamps.specs.declared.no_memory.NoMemory.{NoMemory}
use Rattle.pr_story.specs.declared.entry.Entry.{Entry}
use Rattle.pr_story.specs.Clients.{client_vector}
use Rattle.pr_story.specs.Counts.{Declared}
use Rattle.pr_story.specs.History.{NodeEntry, journal}
use Rattle.pr_story.specs.Lawful.{Valid}
use Rattle.pr_story.specs.Merging.{New, plain}
use Rattle.pr_story.specs.Phases.{IsPhaseAs}
use Rattle.pr_story.specs.Scripts.{ByTime, IsPhase, JobGives}
use Rattle.pr_story.specs.Turns.{stream_time}
use Rattle.pr_story.proofs.Short.{valid_short}
use Rattle.pr_text.specs.Steps.{client_job, job_of, jobs_of, stream_job}
use Rattle.pr_wires.specs.Calls.{WireState}
use Rattle.pr_crew.specs.declared.task.ClientTask.{ClientTask}
use Rattle.pr_crew.specs.declared.task.FlowTask.{FlowTask}
use Rattle.pr_crew.specs.declared.task.Task.{Task}
use Rattle.pr_crew.specs.declared.task.Task.TheVariants as tasks
use Rattle.pr_crew.specs.declared.work.Work.{Work}
use Rattle.pr_crew.specs.Assembly.{IsAssembled, made_at}
use Rattle.pr_crew.specs.Jobs.{MadeAt, at_destination, at_source}
use Rattle.pr_crew.specs.Leaving.{HaveRun}
use Rattle.pr_crew.specs.Making.{NodeCell, NodePass}
use Rattle.pr_crew.specs.Phases.{IsPlanned, IsStopCause, PhaseEnds, is_went}
use Rattle.pr_crew.specs.Stories.{stories}
use Rattle.pr_crew.specs.Tasks.{IsDone, IsDoneClient, IsDoneFlow, of_node, passes_of, stop_of, stop_of_client, stop_of_flow, work_of}
use Rattle.pr_crew.specs.Works.{AreWorks}
use Rattle.pr_crew.proofs.Causes.{client_cause, flow_cause}
use Rattle.pr_crew.proofs.Finished.{HaveMade}
use Rattle.pr_crew.proofs.Giving.{as_many, owner_at}
use Rattle.pr_crew.proofs.OfTasks.{in_task}
use Rattle.pr_crew.proofs.Seen.{goes_on}
use Rattle.pr_crew.proofs.Shares.{in_of_node, of_phase}
use Rattle.pr_crew.proofs.Transport.{lied_here, time_here}

-- what is so of how each job stopped
each_stop : {W : Type 0} (P : Result Stop NoMemory → Type 0) (ts : List (Task W)) → ((k : ℕ) (t : Task W) → slice_get ts k ≡ Some t → P (stop_of t)) → All P (map stop_of ts)
each_stop P [] each = All-nil P
each_stop P (t ∷ ts) each = All-cons P (stop_of t) (map stop_of ts) (each 0 t refl) (each_stop P ts (λ k u is. each (suc k) u is))

module _ {W : Type 0} {state : W → WireState} (records : Declared → List NodeEntry → Type 0) (d : Declared) (h : List NodeEntry) (inside : List Numbered) (ws : List Work) (count : ℕ) (was now last : HeldState Stored) (stop : Result Stop NoMemory)
    (p : IsPlanned records d h inside ws count was) (r : HaveRun W state d.plan h inside count (stream_job inside) now last ws stop) (jobs : ℕ → List New) (made : HaveMade state d.plan h inside count r.cells r.jobs r.nodes jobs)
    (places : List (ℕ × ℕ)) (assembled : IsAssembled d.plan h r.nodes jobs places) where
  abbrev new : List NodeEntry
  new = reverse (made_at r.nodes places)

  abbrev g : List NodeEntry
  g = new ++ h

  valid_now : Valid d.plan g
  valid_now = assembled.valid (stream_job inside) (client_job inside) made.apart

  all_works : AreWorks d.plan h count inside (owners_of inside) (map work_of r.jobs)
  all_works = subst (λ (l : List Work). AreWorks d.plan h count inside (owners_of inside) l) (sym r.works) p.planned

  -- ---- why each job stopped

  -- what a job's pass has seen is a beginning of what the node made
  goes_on_at : (k : ℕ) (t : Task W) → slice_get r.jobs k ≡ Some t → (n : ℕ) (cell : NodeCell) (q : NodePass) (ys : List New) → slice_get r.cells n ≡ Some cell → IsPassOf stories cell q
      → Contains (passes_of n t) q → (m : MadeAt d.plan h n q ys) → (rest : List Entry) × (journal g n ≡ reverse (m.all ++ rest) ++ journal h n)
  goes_on_at k t at n cell q ys cell_is of has m =
      let o = owner_at d.plan h count inside (owners_of inside) r.jobs all_works k t at in
      let lt : n < count = of_phase d.plan h count inside o.0 t o.2 n q has in
      let more = goes_on d.plan h r.cells r.jobs n (r.nodes n) (r.left n lt).0 q cell ys cell_is of (in_task n r.jobs k t q at has) m in
      (more.0, assembled.journals n ∙ ap (λ (es : List Entry). reverse es ++ journal h n) more.1)

  client_stops : (k : ℕ) (t : ClientTask) → slice_get r.jobs k ≡ Some (tasks.Client t) → IsDoneClient d.plan h inside r.cells k t (jobs k) → IsStopCause g (stop_of_client t.end)
  client_stops k t at c =
      let n : ℕ = t.work.node in
      let m : MadeAt d.plan h n c.pass (jobs k) = c.done.made in
      let j = goes_on_at k (tasks.Client t) at n c.used.cell c.pass (jobs k) c.used.cell_is c.used.of_cell (in_of_node n n t.pass c.pass c.used.has refl) m in
      client_cause d.plan h g valid_now n c.pass m.all j.0 m.seen j.1 (client_vector (plain (reverse (jobs k)) ++ h) t.work.client) t.end c.done.failed

  module _ (k : ℕ) (t : FlowTask W) (at : slice_get r.jobs k ≡ Some (tasks.Flow t)) where
    own : stream_job inside t.work.stream ≡ k
    own = (r.sessions k t at).own

    few : stream_time (plain (reverse (jobs k)) ++ h) t.work.stream ≤ length g
    few =
        let all = assembled.merged in
        let here : stream_time (plain (reverse (jobs k)) ++ h) t.work.stream ≡ stream_time (plain all.0 ++ h) t.work.stream = time_here all.0 jobs all.2 (stream_job inside) (client_job inside) made.apart h t.work.stream k own in
        let same : stream_time (plain (reverse (jobs k)) ++ h) t.work.stream ≡ stream_time g t.work.stream = here ∙ ap (λ (es : List NodeEntry). stream_time (es ++ h) t.work.stream) all.1 in
        subst (λ (x : ℕ). x ≤ length g) (sym same) ((valid_short d.plan g valid_now).streams t.work.stream)

    lies : (number : ℕ) (sent got : List ℕ) → IsLied (plain (reverse (jobs k)) ++ h) t.work.stream number sent got → IsLied g t.work.stream number sent got
    lies number sent got lied =
        let all = assembled.merged in
        subst (λ (es : List NodeEntry). IsLied (es ++ h) t.work.stream number sent got) all.1
        (lied_here all.0 jobs all.2 (stream_job inside) (client_job inside) made.apart h t.work.stream k own number sent got lied)

    flow_stops : IsDoneFlow d.plan h inside r.cells k t (jobs k) → IsStopCause g (stop_of_flow t.work.stream t.end)
    flow_stops f =
        let s : ℕ = t.work.stream in
        let a : ℕ = (d.plan.stream s).source in
        let b : ℕ = (d.plan.stream s).destination in
        let m : MadeAt d.plan h a f.from (at_source (jobs k)) = f.done.source in
        let n : MadeAt d.plan h b f.to (at_destination (jobs k)) = f.done.destination in
        let i = goes_on_at k (tasks.Flow t) at a f.source.cell f.from (at_source (jobs k)) (subst (λ (x : ℕ). slice_get r.cells x ≡ Some f.source.cell) f.source_is f.source.cell_is) f.source.of_cell
        (Contains-append_left (of_node a t.work.source t.source) (of_node a t.work.destination t.destination) f.from (in_of_node a t.work.source t.source f.from f.source.has f.source_is)) m in
        let j = goes_on_at k (tasks.Flow t) at b f.destination.cell f.to (at_destination (jobs k)) (subst (λ (x : ℕ). slice_get r.cells x ≡ Some f.destination.cell) f.destination_is f.destination.cell_is) f.destination.of_cell
        (Contains-append_right (of_node b t.work.source t.source) (of_node b t.work.destination t.destination) f.to (in_of_node b t.work.destination t.destination f.to f.destination.has f.destination_is)) n in
        flow_cause d.plan h g valid_now s (jobs k) f.from f.to m.all i.0 n.all j.0 m.seen i.1 n.seen j.1 few lies t.end f.done.lied f.done.failed

  stops_so : (k : ℕ) (t : Task W) → slice_get r.jobs k ≡ Some t → IsDone d.plan h inside r.cells k t (jobs k) → IsStopCause g (stop_of t)
  stops_so k (tasks.Client t) at done = client_stops k t at done
  stops_so k (tasks.Flow t) at done = flow_stops k t at done

  -- ---- how all ended

  many : length (map stop_of r.jobs) ≡ length (jobs_of inside)
  many = length-map r.jobs stop_of ∙ sym (as_many d.plan h count inside (owners_of inside) r.jobs all_works) ∙ sym (length-map (owners_of inside) (job_of inside))

  abbrev wholes : ℕ → Bool
  wholes k = is_went (get_or (map stop_of r.jobs) k (Ok stops.Went))

  pub ended : PhaseEnds h new inside stop
  ended = record {
    each = map stop_of r.jobs;
    many = many;
    first = r.stop_is;
    begun = subst (λ (es : List NodeEntry). IsPhaseAs wholes ByTime (jobs_of inside) es) (sym (reverse-reverse (made_at r.nodes places))) (assembled.marked wholes (jobs_of inside) made.begun);
    whole = λ went. subst (λ (es : List NodeEntry). IsPhase JobGives ByTime (jobs_of inside) es) (sym (reverse-reverse (made_at r.nodes places))) (assembled.whole (jobs_of inside) (made.whole (sym r.stop_is ∙ went)));
    causes = each_stop (IsStopCause g) r.jobs (λ k t at. stops_so k t at (made.each k t at));
  }
