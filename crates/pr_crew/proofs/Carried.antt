-- What a phase adds to what is told of the wires that were closed.
use Rattle.std.proofs.Common.{◌≡◌, ℕ, suc, List, [], ◌∷◌, ◌++◌, Contains, inl, inr, refl, sym, ap, ◌∙◌, subst, cond, map, reverse}
use Rattle.std.specs.Prelude.{Bool, true, false, Option, Some, None, Result, Ok, Err, IsTrue, filter, nat_eq, slice_get}
use Rattle.std.proofs.lemmas.Bool.Decides.{Decides-eqb}
use Rattle.std.proofs.lemmas.List.{reverse-append, reverse-reverse}
use Rattle.std.proofs.lemmas.List.Elements.{All-contains, filter-append}
use Rattle.pr_flow.specs.Crossing.{Carried, IsItem, with_item}
use Rattle.pr_flow.specs.Flows.{IsWhole, crossed}
use Rattle.pr_flow.specs.declared.flow_end.FlowEnd.{FlowEnd}
use Rattle.pr_flow.specs.declared.flow_end.FlowEnd.TheVariants as ends
use Rattle.pr_flow.specs.declared.stop.Stop.{Stop}
use Rattle.pr_flow.specs.declared.stop.Stop.TheVariants as stops
use Rattle.pr_inval.specs.declared.node_fault.NodeFault.{NodeFault}
use Rattle.pr_inval.specs.declared.node_fault.NodeFault.TheVariants as faults
use Rattle.pr_merge.specs.Holding.{HeldState}
use Rattle.pr_node.specs.Stored.{Stored}
use Rattle.pr_script.specs.declared.owner.Owner.{Owner}
use Rattle.pr_script.specs.declared.owner.Owner.TheVariants as owner
use Rattle.pr_script.specs.Steps.{Numbered, owners_of}
use Rattle.pr_stamps.specs.declared.no_memory.NoMemory.{NoMemory}
use Rattle.pr_stamps.proofs.Contained.{is_first, is_later}
use Rattle.pr_story.specs.declared.event.Event.{Event}
use Rattle.pr_story.specs.Counts.{Declared}
use Rattle.pr_story.specs.History.{NodeEntry, Plan}
use Rattle.pr_story.specs.Merging.{IsNoMissing, New, of_job, plain}
use Rattle.pr_story.specs.Scripts.{events_of}
use Rattle.pr_story.specs.Turns.{is_of_stream}
use Rattle.pr_text.specs.Steps.{client_job, job_of, jobs_of, stream_job}
use Rattle.pr_wires.specs.Calls.{WireState}
use Rattle.pr_wires.specs.Made.{Carries}
use Rattle.pr_crew.specs.declared.task.FlowTask.{FlowTask}
use Rattle.pr_crew.specs.declared.task.Task.{Task}
use Rattle.pr_crew.specs.declared.task.Task.TheVariants as tasks
use Rattle.pr_crew.specs.declared.work.Work.{Work}
use Rattle.pr_crew.specs.Assembly.{IsAssembled, made_at}
use Rattle.pr_crew.specs.Carrying.{JobsCarryBeside, of_stream}
use Rattle.pr_crew.specs.Crossing.{AreClosed, HasCrossed, IsClosed, IsTakenFor}
use Rattle.pr_crew.specs.Leaving.{HaveRun}
use Rattle.pr_crew.specs.Phases.{IsPlanned}
use Rattle.pr_crew.specs.Tasks.{stop_of_flow, work_of}
use Rattle.pr_crew.specs.Works.{AreWorks}
use Rattle.pr_crew.proofs.Finished.{HaveMade}
use Rattle.pr_crew.proofs.Giving.{all_went}
use Rattle.pr_crew.proofs.Plain.{plain_reverse}
use Rattle.pr_crew.proofs.Transport.{in_job, stream_outside}

-- ---- one wire

whole_of : (stream : ℕ) (end : Result FlowEnd NodeFault) → stop_of_flow stream end ≡ Ok stops.Went → IsWhole end
whole_of stream (Ok ends.Done) went = tt
whole_of stream (Ok ends.Stale) went = tt
whole_of stream (Ok (ends.Down cause)) went = tt
whole_of stream (Ok (ends.Lied number sent got)) went = absurd (cc)
whole_of stream (Err faults.NoMemory) went = absurd (cc)
whole_of stream (Err (faults.Worn at)) went = absurd (cc)

item_of : (s : ℕ) (events : List Event) (before now : Option (List (List ℕ))) (taken : Option (List ℕ)) → Carries before now taken → IsTakenFor s events taken → (item : List ℕ) × IsItem s events item × (now ≡ with_item before item)
item_of s events None now taken closed told = (crossed events ++ [], ([], refl, inl refl), closed)
item_of s events (Some items) now None closed told = absurd closed
item_of s events (Some items) now (Some bytes) closed told = (bytes, told, closed)

one_carried : {W : Type 0} (state : W → WireState) (wire : Option W) (s : ℕ) (events : List Event) (before now : Option (List (List ℕ))) → HasCrossed state wire s events → IsClosed state wire before now → Carried s events before now
one_carried state None s events before now crossed closed = inl (crossed, closed)
one_carried state (Some w) s events before now (no_failure, told) closed = inr (no_failure, item_of s events before now (state w).taken closed told)

-- ---- the entries of a stream

same_test : (a b : Bool) → (b ≡ true → a ≡ true) → (b ≡ false → a ≡ false) → a ≡ b
same_test a true on off = on refl
same_test a false on off = off refl

plain_cond : (b : Bool) (x : New) (xs : List New) → plain (cond b (x ∷ xs) xs) ≡ cond b (x.made ∷ plain xs) (plain xs)
plain_cond true x xs = refl
plain_cond false x xs = refl

-- the entries of which the test is true are the job's
job_kept : (test : NodeEntry → Bool) (k : ℕ) (all : List New) → ((x : New) → Contains all x → test x.made ≡ nat_eq x.job k) → filter test (plain all) ≡ plain (of_job all k)
job_kept test k [] same = refl
job_kept test k (x ∷ all) same =
    let rest = job_kept test k all (λ y has. same y (is_later x all y has)) in
    let here = same x (is_first x all) in
    (λ i. cond (here i) (x.made ∷ rest i) (rest i)) ∙ sym (plain_cond (nat_eq x.job k) x (of_job all k))

one_back : {X : Type 0} (b : Bool) (x : X) → reverse (cond b (x ∷ []) []) ≡ cond b (x ∷ []) []
one_back true x = refl
one_back false x = refl

filter_reverse : {X : Type 0} (test : X → Bool) (xs : List X) → filter test (reverse xs) ≡ reverse (filter test xs)
filter_reverse test [] = refl
filter_reverse {X} test (x ∷ xs) =
    ap (λ (l : List X). filter test l) (reverse-append (x ∷ []) xs) ∙ filter-append test (reverse xs) (x ∷ [])
    ∙ (λ i. filter_reverse test xs i ++ sym (one_back (test x) x) i)
    ∙ sym (ap (λ (l : List X). reverse l) (filter-append test (x ∷ []) xs) ∙ reverse-append (filter test (x ∷ [])) (filter test xs))

-- ---- all wires

module _ {W : Type 0} (state : W → WireState) (plan : Plan) (h : List NodeEntry) (count : ℕ) (inside : List Numbered) (es : List NodeEntry) where
  abbrev IsCarried : FlowTask W → Type 0
  IsCarried t = (before now : Option (List (List ℕ))) → IsClosed state t.wire before now → Carried t.work.stream (events_of (of_stream t.work.stream es)) before now

  beside : (os : List Owner) (ts : List (Task W)) → AreWorks plan h count inside os (map work_of ts) → ((i : ℕ) (t : FlowTask W) → slice_get ts i ≡ Some (tasks.Flow t) → IsCarried t) → (before now : Option (List (List ℕ)))
      → AreClosed state ts before now → JobsCarryBeside (map (job_of inside) os) es before now
  beside [] [] works each before now closed = closed
  beside [] (t ∷ ts) works each before now closed = let bad : work_of t ∷ map work_of ts ≡ [] = works in absurd (cc)
  beside (o ∷ os) [] works each before now closed = absurd works
  beside (owner.Client client ∷ os) (tasks.Client t ∷ ts) works each before now (then, here, closed) =
      subst (λ (b : Option (List (List ℕ))). JobsCarryBeside (map (job_of inside) os) es b now) here (beside os ts works.1 (λ i u at. each (suc i) u at) then now closed)
  beside (owner.Client client ∷ os) (tasks.Flow t ∷ ts) works each before now closed = absurd works.0
  beside (owner.Stream stream ∷ os) (tasks.Client t ∷ ts) works each before now closed = absurd works.0
  beside (owner.Stream stream ∷ os) (tasks.Flow t ∷ ts) works each before now (then, here, closed) = (
    then,
    subst (λ (s : ℕ). Carried s (events_of (of_stream s es)) before then) works.0.stream_is (each 0 t refl before then here),
    beside os ts works.1 (λ i u at. each (suc i) u at) then now closed,
  )

module _ {W : Type 0} {state : W → WireState} (records : Declared → List NodeEntry → Type 0) (d : Declared) (h : List NodeEntry) (inside : List Numbered) (ws : List Work) (count : ℕ) (was now last : HeldState Stored) (stop : Result Stop NoMemory)
    (p : IsPlanned records d h inside ws count was) (r : HaveRun W state d.plan h inside count (stream_job inside) now last ws stop) (jobs : ℕ → List New) (made : HaveMade state d.plan h inside count r.cells r.jobs r.nodes jobs)
    (places : List (ℕ × ℕ)) (assembled : IsAssembled d.plan h r.nodes jobs places) where
  abbrev new : List NodeEntry
  new = reverse (made_at r.nodes places)

  abbrev all : List New
  all = assembled.merged.0

  all_works : AreWorks d.plan h count inside (owners_of inside) (map work_of r.jobs)
  all_works = subst (λ (l : List Work). AreWorks d.plan h count inside (owners_of inside) l) (sym r.works) p.planned

  -- of the phase's entries those of a flow's stream are the job's own
  of_flow : (k : ℕ) (t : FlowTask W) → slice_get r.jobs k ≡ Some (tasks.Flow t) → of_stream t.work.stream (reverse new) ≡ plain (jobs k)
  of_flow k t at =
      let s : ℕ = t.work.stream in
      let f = made.each k (tasks.Flow t) at in
      let mine : (x : New) → Contains (jobs k) x → is_of_stream x.made.entry.event s ≡ true =
      λ x has. (All-contains (λ (y : New). IsTrue (is_of_stream y.made.entry.event s) × IsNoMissing y.made.entry.event) (jobs k) x f.done.of_stream has).0 in
      let kept : filter (λ (e : NodeEntry). is_of_stream e.entry.event s) (plain all) ≡ plain (of_job all k) = job_kept (λ e. is_of_stream e.entry.event s) k all (λ x has. same_test (is_of_stream x.made.entry.event s) (nat_eq x.job k)
      (λ own. mine x (subst (λ (j : ℕ). Contains (jobs j) x) ((Decides-eqb x.job k).0 own) (in_job all jobs assembled.merged.2 x has)))
      (λ other. stream_outside all jobs assembled.merged.2 (stream_job inside) (client_job inside) made.apart s k (r.sessions k t at).own x has other)) in
      filter_reverse (λ (e : NodeEntry). is_of_stream e.entry.event s) new
      ∙ ap (λ (l : List NodeEntry). reverse (of_stream s l)) (sym assembled.merged.1)
      ∙ ap (λ (l : List NodeEntry). reverse l) (kept ∙ ap plain (assembled.merged.2 k) ∙ plain_reverse (jobs k))
      ∙ reverse-reverse (plain (jobs k))

  pub carried : stop ≡ Ok stops.Went → (before after : Option (List (List ℕ))) → AreClosed state r.jobs before after → JobsCarryBeside (jobs_of inside) (reverse new) before after
  carried went before after closed =
      beside state d.plan h count inside (reverse new) (owners_of inside) r.jobs all_works
      (λ k t at b n is.
      let s : ℕ = t.work.stream in
      let whole = whole_of s t.end (all_went r.jobs (sym r.stop_is ∙ went) k (tasks.Flow t) at) in
      subst (λ (l : List NodeEntry). Carried s (events_of l) b n) (sym (of_flow k t at)) (one_carried state t.wire s (events_of (plain (jobs k))) b n (made.crossed k (tasks.Flow t) at whole) is))
      before after closed
