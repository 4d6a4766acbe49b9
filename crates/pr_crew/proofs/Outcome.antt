-- What the jobs of a phase made, once all of them have ended and all cells are closed, can be added to the history.
use Rattle.std.proofs.Common.{◌≡◌, ℕ, ◌<◌, ◌≤◌, List, ◌++◌, Contains, inl, inr, sym, ap, ◌∙◌, subst, get_or, length, reverse}
use Rattle.std.specs.Prelude.{IsTrue, None, Result, Some, slice_get}
use Rattle.std.proofs.lemmas.List.Elements.{All-contains}
use Rattle.pr_flow.specs.declared.stop.Stop.{Stop}
use Rattle.pr_merge.specs.Holding.{HeldState}
use Rattle.pr_merge.specs.Merged.{IsMerged}
use Rattle.pr_node.specs.Stored.{Stored}
use Rattle.pr_script.specs.declared.owner.Owner.{Owner}
use Rattle.pr_script.specs.declared.owner.Owner.TheVariants as owner
use Rattle.pr_script.specs.Steps.{Numbered, owners_of}
use Rattle.pr_stamps.specs.declared.no_memory.NoMemory.{NoMemory}
use Rattle.pr_story.specs.declared.entry.Entry.{Entry}
use Rattle.pr_story.specs.Clients.{is_of_client}
use Rattle.pr_story.specs.Counts.{AreDeclared, Declared, IsDeclared}
use Rattle.pr_story.specs.History.{NodeEntry}
use Rattle.pr_story.specs.Merging.{IsNoMissing, New}
use Rattle.pr_story.specs.Turns.{is_of_stream}
use Rattle.pr_story.proofs.Sorted.{contains_none}
use Rattle.pr_text.specs.Steps.{stream_job}
use Rattle.pr_wires.specs.Calls.{WireState}
use Rattle.pr_crew.specs.declared.task.FlowTask.{FlowTask}
use Rattle.pr_crew.specs.declared.task.Task.{Task}
use Rattle.pr_crew.specs.declared.task.Task.TheVariants as tasks
use Rattle.pr_crew.specs.declared.work.Work.{Work}
use Rattle.pr_crew.specs.Assembly.{IsAssembled, made_at, parts_of}
use Rattle.pr_crew.specs.Leaving.{HaveRun, IsLeft}
use Rattle.pr_crew.specs.Phases.{CanRunJob, IsPlanned}
use Rattle.pr_crew.specs.Rooms.{CanAppend}
use Rattle.pr_crew.specs.Sites.{HasMadeAll, IsBeside}
use Rattle.pr_crew.specs.Tasks.{IsDone, work_of}
use Rattle.pr_crew.specs.Works.{AreWorks, IsWork, all_at}
use Rattle.pr_crew.proofs.Assembly.{phases_assembled}
use Rattle.pr_crew.proofs.Finished.{HaveFinished, HaveMade}
use Rattle.pr_crew.proofs.FinishedMade.{finished_have_made}
use Rattle.pr_crew.proofs.Giving.{owner_at}
use Rattle.pr_crew.proofs.OfTasks.{at_or_past}
use Rattle.pr_crew.proofs.Places.{all_at_place}
use Rattle.pr_crew.proofs.Shares.{IsPart, of_phase, part_of}
use Rattle.pr_crew.proofs.Transport.{declared_client, declared_here, declared_stream, in_job}

module _ {W : Type 0} {state : W → WireState} (records : Declared → List NodeEntry → Type 0) (d : Declared) (h : List NodeEntry) (inside : List Numbered) (ws : List Work) (count : ℕ) (was now last : HeldState Stored) (stop : Result Stop NoMemory) (p : IsPlanned records d h inside ws count was) (beside : IsBeside was now) (r : HaveRun W state d.plan h inside count (stream_job inside) now last ws stop) where
  pub finished : HaveFinished state d.plan h inside count r.cells r.jobs r.nodes
  finished = record {
    valid = p.represents.valid;
    works = subst (λ (vs : List Work). AreWorks d.plan h count inside (owners_of inside) vs) (sym r.works) p.planned;
    done = r.done;
    in_turn = r.in_turn;
    left = λ n lt. (r.left n lt).0;
    none = r.none;
    apart = p.distinct.jobs;
  }

  -- each job's own entries
  abbrev pub jobs : ℕ → List New
  jobs k = (finished_have_made W state d.plan h inside count r.cells r.jobs r.nodes finished).0 k

  pub have_made : HaveMade state d.plan h inside count r.cells r.jobs r.nodes jobs
  have_made = (finished_have_made W state d.plan h inside count r.cells r.jobs r.nodes finished).1

  pub assembled : (places : List (ℕ × ℕ)) → IsMerged (parts_of r.nodes count) places → IsAssembled d.plan h r.nodes jobs places
  assembled places merged = phases_assembled d.plan h r.nodes jobs count places have_made.made r.none merged

  -- ---- whose job a task is

  pub owner_of_task : (k : ℕ) (t : Task W) → slice_get r.jobs k ≡ Some t → (o : Owner) × (slice_get (owners_of inside) k ≡ Some o) × IsWork d.plan h count inside o (work_of t)
  owner_of_task k t is = owner_at d.plan h count inside (owners_of inside) r.jobs finished.works k t is

  pub owner_can : (k : ℕ) (o : Owner) → slice_get (owners_of inside) k ≡ Some o → CanRunJob was o
  owner_can k o is = all_at_place (λ (x : Owner). CanRunJob was x) (owners_of inside) k o p.can.can is

  stream_of : (o : Owner) (t : FlowTask W) → IsWork d.plan h count inside o (work_of {W = W} (tasks.Flow t)) → CanRunJob was o → t.work.stream < length was.sessions
  stream_of (owner.Stream stream) t w can = subst (λ (s : ℕ). s < length was.sessions) (sym w.stream_is) can.0
  stream_of (owner.Client client) t w can = absurd w

  -- the stream of a flow's task is there
  pub stream_known : (k : ℕ) (t : FlowTask W) → slice_get r.jobs k ≡ Some (tasks.Flow t) → t.work.stream < length was.sessions
  stream_known k t is = let o = owner_of_task k (tasks.Flow t) is in stream_of o.0 t o.2 (owner_can k o.0 o.1)

  -- ---- what is declared

  many_nodes : count ≡ d.counts.nodes
  many_nodes = p.many ∙ p.represents.many_nodes

  event_declared : (k : ℕ) (o : Owner) (t : Task W) (xs : List New) → IsWork d.plan h count inside o (work_of t) → CanRunJob was o → IsDone d.plan h inside r.cells k t xs → (x : New) → Contains xs x
      → IsDeclared d.counts x.made.entry.event
  event_declared k (owner.Client client) (tasks.Client t) xs w can done x has =
      let lt : t.work.client < d.counts.clients = subst (λ (many : ℕ). t.work.client < many) p.represents.many_clients (subst (λ (c : ℕ). c < was.clients) (sym w.client_is) can) in
      declared_client d.counts x.made.entry.event t.work.client (All-contains (λ (y : New). IsTrue (is_of_client y.made.entry.event t.work.client)) xs x done.done.of_client has) lt
  event_declared k (owner.Stream stream) (tasks.Flow t) xs w can done x has =
      let lt : t.work.stream < d.counts.streams = subst (λ (many : ℕ). t.work.stream < many) p.represents.many_streams (stream_of (owner.Stream stream) t w can) in
      let on = All-contains (λ (y : New). IsTrue (is_of_stream y.made.entry.event t.work.stream) × IsNoMissing y.made.entry.event) xs x done.done.of_stream has in
      declared_stream d.counts x.made.entry.event t.work.stream on.0 lt
  event_declared k (owner.Client client) (tasks.Flow t) xs w can done x has = absurd w
  event_declared k (owner.Stream stream) (tasks.Client t) xs w can done x has = absurd w

  task_declared : (k : ℕ) (t : Task W) → slice_get r.jobs k ≡ Some t → (x : New) → Contains (jobs k) x → (x.made.node < d.counts.nodes) × IsDeclared d.counts x.made.entry.event
  task_declared k t is x has =
      let o = owner_of_task k t is in
      let done : IsDone d.plan h inside r.cells k t (jobs k) = have_made.each k t is in
      let part : IsPart d.plan h r.cells inside k t x.made.node x = part_of d.plan h r.cells inside k t (jobs k) done x has in
      let lt : x.made.node < count = of_phase d.plan h count inside o.0 t o.2 x.made.node part.q part.pass in
      (subst (λ (many : ℕ). x.made.node < many) many_nodes lt, event_declared k o.0 t (jobs k) o.2 (owner_can k o.0 o.1) done x has)

  -- each job's entries are of what is declared
  pub job_declared : (k : ℕ) (x : New) → Contains (jobs k) x → (x.made.node < d.counts.nodes) × IsDeclared d.counts x.made.entry.event
  job_declared k x has = elim (at_or_past r.jobs k) [
    | inl t ↦ task_declared k t.0 t.1 x has
    | inr past ↦ absurd (contains_none x (subst (λ (xs : List New). Contains xs x) (have_made.none k past) has))
  ]

  merged_declared : (places : List (ℕ × ℕ)) → IsMerged (parts_of r.nodes count) places → AreDeclared d.counts (reverse (made_at r.nodes places) ++ h)
  merged_declared places merged =
      let (all, same, parts) = (assembled places merged).merged in
      subst (λ (ms : List NodeEntry). AreDeclared d.counts (ms ++ h)) same
      (declared_here d.counts h all p.represents.speaks (λ x has. job_declared x.job x (in_job all jobs parts x has)))

  -- ---- as it is added

  made_here : (n : ℕ) → n < count → (m : Stored) × (get_or last.nodes n None ≡ Some m) × HasMadeAll d.plan h n (r.nodes n) m
  made_here n lt =
      let l : IsLeft d.plan h r.cells r.jobs n (r.nodes n) = (r.left n lt).0 in
      (l.node, (r.left n lt).1, subst (λ (es : List Entry). HasMadeAll d.plan h n es l.node) l.made_is l.closed.node)

  pub can_append : CanAppend d h ws count r.nodes jobs last
  can_append = record {
    made = have_made.made;
    none = r.none;
    here = made_here;
    few = λ n lt. subst (λ (vs : List Work). length (r.nodes n) ≤ all_at vs n) r.works (have_made.few n lt);
    many = r.many_nodes ∙ beside.nodes ∙ sym p.many;
    nodes_are = r.many_nodes ∙ beside.nodes ∙ p.represents.many_nodes;
    streams_are = r.many_sessions ∙ ap (λ l. length l) beside.sessions ∙ p.represents.many_streams;
    clients_are = r.clients ∙ beside.clients ∙ p.represents.many_clients;
    places = r.places ∙ beside.places ∙ p.represents.places;
    speaks = merged_declared;
  }
