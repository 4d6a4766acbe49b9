-- What is held after a phase represents the history with what the phase made.
use Rattle.std.proofs.Common.{◌≡◌, ℕ, zero, suc, ◌+◌, ◌<◌, ◌≤◌, List, [], ◌∷◌, ◌++◌, Contains, inl, inr, refl, sym, ap, ◌∙◌, subst, get_or, length, map, reverse, arith}
use Rattle.std.specs.Prelude.{IsTrue, true, false, Some, None, Result, slice_get}
use Rattle.std.proofs.lemmas.Bool.Decides.{Decides-eqb}
use Rattle.std.proofs.lemmas.List.Elements.{All-contains}
use Rattle.std.proofs.lemmas.List.Sums.{passes_at_first}
use Rattle.std.proofs.lemmas.Option.{get_or_from_slice_get, same_Some, slice_get_within}
use Rattle.pr_flow.specs.declared.stop.Stop.{Stop}
use Rattle.pr_inval.specs.declared.msg.Msg.{Msg}
use Rattle.pr_inval.specs.Messages.{IsMessage}
use Rattle.pr_inval.specs.Standing.{Remembered}
use Rattle.pr_merge.specs.Holding.{AreSessions, HeldState, IsNodeOf, IsSession}
use Rattle.pr_merge.specs.Merged.{IsMerged}
use Rattle.pr_merge.proofs.Phasing.{is_apart}
use Rattle.pr_node.specs.Stored.{Stored, means}
use Rattle.pr_script.specs.declared.owner.Owner.{Owner}
use Rattle.pr_script.specs.declared.owner.Owner.TheVariants as owner
use Rattle.pr_script.specs.Steps.{Numbered, is_same_owner, owners_of}
use Rattle.pr_stamps.specs.declared.no_memory.NoMemory.{NoMemory}
use Rattle.pr_stamps.proofs.Contained.{contains_none, is_first, is_later}
use Rattle.pr_story.specs.Counts.{Declared}
use Rattle.pr_story.specs.History.{NodeEntry, Plan, WasSent, journal}
use Rattle.pr_story.specs.Merging.{New, of_job, plain}
use Rattle.pr_story.specs.Turns.{is_of_stream}
use Rattle.pr_story.proofs.Lit.{bool_cases}
use Rattle.pr_text.specs.Steps.{client_job, stream_job}
use Rattle.pr_wires.specs.Calls.{WireState}
use Rattle.pr_crew.specs.declared.task.Task.{Task}
use Rattle.pr_crew.specs.declared.task.Task.TheVariants as tasks
use Rattle.pr_crew.specs.declared.work.Work.{Work}
use Rattle.pr_crew.specs.Assembly.{IsAssembled, made_at, parts_of}
use Rattle.pr_crew.specs.Leaving.{HaveRun, IsGivenBack}
use Rattle.pr_crew.specs.Making.{NodeCell}
use Rattle.pr_crew.specs.Phases.{CanRunJob, IsPlanned, RepresentsNodes, SameAttached}
use Rattle.pr_crew.specs.Rooms.{CanAppend}
use Rattle.pr_crew.specs.Sites.{IsBeside}
use Rattle.pr_crew.specs.Tasks.{AreSpelled, IsDone, IsDoneFlow, work_of}
use Rattle.pr_crew.specs.Works.{AreWorks, IsWork}
use Rattle.pr_crew.proofs.Finished.{HaveMade}
use Rattle.pr_crew.proofs.Giving.{owner_at}
use Rattle.pr_crew.proofs.OfTasks.{at_or_past}
use Rattle.pr_crew.proofs.Transport.{client_spelled, grammar_here, in_job, session_here, session_still, spelled_here}

-- ---- the owner of a stream's job

owner_is : (o : Owner) (s : ℕ) → is_same_owner o (owner.Stream s) ≡ true → o ≡ owner.Stream s
owner_is (owner.Client client) s is = absurd (cc)
owner_is (owner.Stream stream) s is = ap owner.Stream ((Decides-eqb stream s).0 is)

-- where a stream has a job, it is that job's owner
pub own_stream : (inside : List Numbered) (s : ℕ) (o : Owner) → slice_get (owners_of inside) (stream_job inside s) ≡ Some o → o ≡ owner.Stream s
own_stream inside s o at =
    let os : List Owner = owners_of inside in
    let test = λ (p : Owner). is_same_owner p (owner.Stream s) in
    let d : Owner = owner.Stream 0 in
    let passes : test (get_or os (stream_job inside s) d) ≡ true = passes_at_first test os d (slice_get_within os (stream_job inside s) o at) in
    let found : get_or os (stream_job inside s) d ≡ o = get_or_from_slice_get os (stream_job inside s) o d at in
    owner_is o s (sym (ap test found) ∙ passes)

pub at_contains : {X : Type 0} (xs : List X) (k : ℕ) (x : X) → slice_get xs k ≡ Some x → Contains xs x
at_contains [] k x is = absurd (cc)
at_contains (y ∷ xs) zero x is = subst (λ (z : _). Contains (y ∷ xs) z) (same_Some y x is) (is_first y xs)
at_contains (y ∷ xs) (suc k) x is = is_later y xs x (at_contains xs k x is)

-- ---- the messages of a job

job_spelled : {W : Type 0} (plan : Plan) (h : List NodeEntry) (inside : List Numbered) (cells : List NodeCell) (k : ℕ) (t : Task W) (xs : List New) → IsDone plan h inside cells k t xs → AreSpelled xs
job_spelled plan h inside cells k (tasks.Client t) xs done = client_spelled t.work.client xs done.done.of_client
job_spelled plan h inside cells k (tasks.Flow t) xs done = done.spelled

module _ {W : Type 0} {state : W → WireState} (records later : Declared → List NodeEntry → Type 0) (d : Declared) (h : List NodeEntry) (inside : List Numbered) (ws : List Work) (count : ℕ) (was now last : HeldState Stored) (stop : Result Stop NoMemory)
    (p : IsPlanned records d h inside ws count was) (beside : IsBeside was now) (r : HaveRun W state d.plan h inside count (stream_job inside) now last ws stop)
    (jobs : ℕ → List New) (made : HaveMade state d.plan h inside count r.cells r.jobs r.nodes jobs) (append : CanAppend d h ws count r.nodes jobs last)
    (places : List (ℕ × ℕ)) (merged : IsMerged (parts_of r.nodes count) places) (assembled : IsAssembled d.plan h r.nodes jobs places) where
  -- the history with what was made
  abbrev whole : List NodeEntry
  whole = reverse (made_at r.nodes places) ++ h

  all : List New
  all = assembled.merged.0

  all_is : plain all ++ h ≡ whole
  unfolding all
  all_is = ap (λ (new : List NodeEntry). new ++ h) assembled.merged.1

  parts : (k : ℕ) → of_job all k ≡ reverse (jobs k)
  unfolding all
  parts = assembled.merged.2

  -- ---- messages and nodes

  each_spelled : (k : ℕ) → AreSpelled (jobs k)
  each_spelled k = elim (at_or_past r.jobs k) [
    | inl t ↦ job_spelled d.plan h inside r.cells k t.0 (jobs k) (made.each k t.0 t.1)
    | inr past ↦ λ x msg has is. absurd (contains_none x (subst (λ (xs : List New). Contains xs x) (made.none k past) has))
  ]

  grammar : (msg : Msg) → WasSent whole msg → IsMessage msg
  grammar msg sent = grammar_here h all p.represents.grammar (spelled_here all jobs parts each_spelled) msg (subst (λ (g : List NodeEntry). WasSent g msg) (sym all_is) sent)

  nodes_here : (n : ℕ) → n < length last.nodes → (m : Stored) × (get_or last.nodes n None ≡ Some m) × IsNodeOf (λ (x : Stored). x.id) (λ (x : Stored). (means x).sets) (λ (x : Stored). (means x).journal) d.plan whole n m
  nodes_here n lt =
      let many = append.many in
      let (m, at, of) = append.here n (omega (arith, lt, many)) in
      (m, at, record { number_is = of.number_is; sets_are = of.sets_are; journal_is = of.journal_is ∙ sym (assembled.journals n) })

  -- ---- the job of a stream

  planned : AreWorks d.plan h count inside (owners_of inside) (map work_of r.jobs)
  planned = subst (λ (l : List Work). AreWorks d.plan h count inside (owners_of inside) l) (sym r.works) p.planned

  owned : (s : ℕ) (t : Task W) → slice_get r.jobs (stream_job inside s) ≡ Some t → (slice_get (owners_of inside) (stream_job inside s) ≡ Some (owner.Stream s)) × IsWork d.plan h count inside (owner.Stream s) (work_of t)
  owned s t is =
      let o = owner_at d.plan h count inside (owners_of inside) r.jobs planned (stream_job inside s) t is in
      let same : o.0 ≡ owner.Stream s = own_stream inside s o.0 o.1 in
      (o.1 ∙ ap Some same, subst (λ (v : Owner). IsWork d.plan h count inside v (work_of t)) same o.2)

  -- a stream of no job is as before
  as_before : (s : ℕ) → length r.jobs ≤ stream_job inside s → get_or last.sessions s None ≡ get_or was.sessions s None
  as_before s past = r.rest s past ∙ ap (λ (l : List _). get_or l s None) beside.sessions

  -- ---- sessions

  abbrev HasSession : ℕ → Type 0
  HasSession s = (x : Remembered) × (get_or last.sessions s None ≡ Some x) × IsSession d.plan (plain all ++ h) s x

  given : (s : ℕ) (t : Task W) → slice_get r.jobs (stream_job inside s) ≡ Some t → IsWork d.plan h count inside (owner.Stream s) (work_of t) → HasSession s
  given s (tasks.Client t) is work = absurd work
  given s (tasks.Flow t) is work =
      let k : ℕ = stream_job inside s in
      let done : IsDoneFlow d.plan h inside r.cells k t (jobs k) = made.each k (tasks.Flow t) is in
      let back : IsGivenBack (stream_job inside) last k t = r.sessions k t is in
      let stands : IsSession d.plan (plain (reverse (jobs k)) ++ h) s done.session = subst (λ (i : ℕ). IsSession d.plan (plain (reverse (jobs k)) ++ h) i done.session) work.stream_is done.done.stands in (
        done.session,
        ap (λ (i : ℕ). get_or last.sessions i None) (sym work.stream_is) ∙ back.given ∙ done.has,
        session_here all jobs parts (stream_job inside) (client_job inside) made.apart h s k refl d.plan done.session stands,
      )

  -- no entry is of a stream of no job
  no_entry : (s : ℕ) → length r.jobs ≤ stream_job inside s → (x : New) → Contains all x → is_of_stream x.made.entry.event s ≡ false
  no_entry s past x has = elim (bool_cases (is_of_stream x.made.entry.event s)) [
    | inl on ↦ (let here : Contains (jobs x.job) x = in_job all jobs parts x has in
        let job : x.job ≡ stream_job inside s = (is_apart (stream_job inside) (client_job inside) (jobs x.job) x (made.apart x.job) here).1 s on in
        absurd (contains_none x (subst (λ (xs : List New). Contains xs x) (made.none x.job (omega (arith, job, past))) here)))
    | inr off ↦ off
  ]

  stays : (s : ℕ) → s < length last.sessions → length r.jobs ≤ stream_job inside s → HasSession s
  stays s lt past =
      let many : length last.sessions ≡ length was.sessions = r.many_sessions ∙ ap (λ (l : List _). length l) beside.sessions in
      let (x, here, is) = p.represents.sessions s (omega (arith, lt, many)) in
      (x, as_before s past ∙ here, session_still d.plan h all s (no_entry s past) x is)

  has_session : (s : ℕ) → s < length last.sessions → HasSession s
  has_session s lt = elim (at_or_past r.jobs (stream_job inside s)) [
    | inl t ↦ given s t.0 t.1 (owned s t.0 t.1).1
    | inr past ↦ stays s lt past
  ]

  sessions : AreSessions d.plan whole last.sessions
  sessions = subst (λ (g : List NodeEntry). AreSessions d.plan g last.sessions) all_is has_session

  -- ---- all of it

  pub represented : (then : HeldState Stored)
      → then ≡ record { nodes = last.nodes; sessions = last.sessions; clients = last.clients; places = last.places ++ map (λ (q : ℕ × ℕ). (q.0, length (journal h q.0) + q.1)) places }
      → later d (reverse (made_at r.nodes places) ++ h) → RepresentsNodes later d (reverse (made_at r.nodes places) ++ h) then
  represented then is records_are = subst (λ (s : HeldState Stored). RepresentsNodes later d whole s) (sym is) (record {
    valid = assembled.valid (stream_job inside) (client_job inside) made.apart;
    speaks = append.speaks places merged;
    grammar = grammar;
    places = ap (λ (before : List (ℕ × ℕ)). before ++ map (λ (q : ℕ × ℕ). (q.0, length (journal h q.0) + q.1)) places) append.places ∙ sym assembled.places_are;
    nodes = nodes_here;
    sessions = sessions;
    many_nodes = append.nodes_are;
    many_streams = append.streams_are;
    many_clients = append.clients_are;
    records_are = records_are;
  })

  -- ---- attached streams

  -- a stream that flows was attached, and is
  on_given : (s : ℕ) (t : Task W) → slice_get r.jobs (stream_job inside s) ≡ Some t → IsWork d.plan h count inside (owner.Stream s) (work_of t) → (y : Remembered) → get_or last.sessions s None ≡ Some y → IsTrue y.attached
  on_given s (tasks.Client t) is work y now_is = absurd work
  on_given s (tasks.Flow t) is work y now_is =
      let back : IsGivenBack (stream_job inside) last (stream_job inside s) t = r.sessions (stream_job inside s) t is in
      back.attached y (sym back.given ∙ ap (λ (i : ℕ). get_or last.sessions i None) work.stream_is ∙ now_is)

  on_before : (s : ℕ) → slice_get (owners_of inside) (stream_job inside s) ≡ Some (owner.Stream s) → (x : Remembered) → get_or was.sessions s None ≡ Some x → IsTrue x.attached
  on_before s at x was_is =
      let can : CanRunJob was (owner.Stream s) = All-contains (CanRunJob was) (owners_of inside) (owner.Stream s) p.can.can (at_contains (owners_of inside) (stream_job inside s) (owner.Stream s) at) in
      can.1 x was_is

  last_same : SameAttached was last
  last_same s x y was_is now_is = elim (at_or_past r.jobs (stream_job inside s)) [
    | inl t ↦ (let o = owned s t.0 t.1 in on_given s t.0 t.1 o.1 y now_is ∙ sym (on_before s o.0 x was_is))
    | inr past ↦ ap (λ (z : Remembered). z.attached) (same_Some y x (sym now_is ∙ as_before s past ∙ was_is))
  ]

  pub attached_same : (then : HeldState Stored)
      → then ≡ record { nodes = last.nodes; sessions = last.sessions; clients = last.clients; places = last.places ++ map (λ (q : ℕ × ℕ). (q.0, length (journal h q.0) + q.1)) places }
      → SameAttached was then
  attached_same then is s x y was_is now_is = last_same s x y was_is (sym (ap (λ (u : HeldState Stored). get_or u.sessions s None) is) ∙ now_is)
