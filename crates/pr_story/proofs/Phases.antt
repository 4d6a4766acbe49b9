-- The jobs of a phase beside each other.
use Rattle.std.proofs.Common.{◌≡◌, ℕ, ◌<◌, ◌≤◌, ◌+◌, ◌-◌, ◌⊎◌, inl, inr, List, [], ◌∷◌, ◌++◌, refl, sym, ◌∙◌, ap, subst, arith, cond, nat_eq, suc, reverse}
use Rattle.std.specs.Prelude.{Some, None, Bool, true, false, IsTrue, All, filter}
use Rattle.std.proofs.lemmas.Bool.Decides.{nat_tests, Decides-eqb, eqb_tells}
use Rattle.std.proofs.lemmas.List.{reverse-reverse, reverse-append}
use Rattle.pr_inval.specs.declared.msg.Msg.{Msg}
use Rattle.pr_story.specs.declared.entry.Entry.{Entry}
use Rattle.pr_story.specs.declared.cause.Cause.{Cause}
use Rattle.pr_story.specs.declared.cause.Cause.TheVariants.{Failed, Ended, Gap}
use Rattle.pr_story.specs.declared.event.Event.{Event}
use Rattle.pr_story.specs.declared.event.Event.TheVariants.{Wrote, Sent, Idle, Stale, Accepted, Gapped, Down, Answered, Behind}
use Rattle.pr_story.specs.History.{Plan, NodeEntry, SomeEvent, entries, journal, WasSent}
use Rattle.pr_story.specs.Clients.{is_of_client, client_node}
use Rattle.pr_story.specs.Turns.{IsAttached, Attaches, is_of_stream}
use Rattle.pr_story.specs.Commands.{Command, ToWrite, ToRead, Gives}
use Rattle.pr_story.specs.Scripts as scripts
use Rattle.pr_story.specs.Scripts.{Job, ClientJob, FlowJob, AreTurns, IsFlow, AreOfCommands, JobGives, JobBegins, JobEntry, events_of, EachJob, Order, Line, Single, Expect, Detach, Flow, Settle, Phase, LineGives, LineBegins, attached_after, AreBegun}
use Rattle.pr_story.specs.Lawful.{IsPlaced, HasCause, DownAfter, is_after_gap, is_gap}
use Rattle.pr_story.specs.Merging.{New, plain, of_job, IsJobRun, IsNoMissing, AreApart}
use Rattle.pr_story.specs.Phases.{IsCommandOf, AreCommandsOf, IsApartJob, AreApartJobs, EachBegins, AreStanding, JobGivesAs, EachJobAs, LineBeginsAs, AreBegunAs}
use Rattle.pr_story.proofs.Merging.{merges}
use Rattle.pr_story.proofs.Steps.{entry_at}
use Rattle.pr_story.specs.Statements.{PhaseJobsMerge, JobsAreRuns, MarkedPhases, MarkedIsBegun}

-- ---- what one event of a flow needs and leaves

some_more : (P : Event → Type 0) (a h : List NodeEntry) → SomeEvent P (entries h) → SomeEvent P (entries (a ++ h))
some_more P [] h s = s
some_more P (e ∷ a) h s = inr (some_more P a h s)

data FlowAt : Type 0 where
  Turning : ℕ → FlowAt
  Taking : ℕ → Msg → FlowAt
  Ending : FlowAt
  Failing : FlowAt
  Over : FlowAt

module _ (plan : Plan) (s : ℕ) where
  abbrev Fits : FlowAt → List Event → Type 0
  Fits (Turning turns) events = AreTurns s None turns events
  Fits (Taking turns msg) events = AreTurns s (Some msg) turns events
  Fits Ending events = events ≡ Down s Gap ∷ []
  Fits Failing events = events ≡ Down s Failed ∷ []
  Fits Over events = events ≡ []

  -- what is so of the history where a flow stands so
  abbrev Stands : FlowAt → List NodeEntry → Type 0
  Stands (Taking turns msg) g = (msg.stream ≡ s) × WasSent g msg
  Stands Ending g = IsTrue (is_after_gap (journal g (plan.stream s).destination) s)
  Stands x g = Unit {0}

  -- the event is of the stream and of no client, and it is no Missing
  abbrev IsFlows : Event → Type 0
  IsFlows event = IsNoMissing event × ((t : ℕ) → IsTrue (is_of_stream event t) → t ≡ s) × ((c : ℕ) → IsTrue (is_of_client event c) → ⊥)

  -- what is to be shown of one event, at node n after g
  record Goes (h g : List NodeEntry) (n time caller : ℕ) (event : Event) (rest : List Event) : Type 0 where
    placed : IsPlaced plan g n event
    cause : HasCause g n event
    mine : IsFlows event
    next : FlowAt
    fits : Fits next rest
    stands : Stands next (entry_at n time caller event ∷ g)

  same_stream : (x t : ℕ) → x ≡ s → IsTrue (nat_eq x t) → t ≡ s
  same_stream x t e i = sym ((Decides-eqb x t).0 i) ∙ e

  gap_here : (b c : Bool) (e : Entry) (j : List Entry) → b ≡ true → is_of_stream e.event s ≡ true → IsTrue (is_gap e.event) → IsTrue (is_after_gap (cond b (e ∷ j) j) s)
  gap_here true c e j p q r = subst (λ (x : Bool). IsTrue (cond x (is_gap e.event) (is_after_gap j s))) (sym q) r
  gap_here false c e j p q r = cc

  module _ (h g : List NodeEntry) (attached : IsAttached g s) (n time caller : ℕ) where
    attached_at : (t : ℕ) → t ≡ s → IsAttached g t
    attached_at t e = subst (λ (x : ℕ). IsAttached g x) (sym e) attached

    down_ok : (cause : Cause) (b : Bool) → (cause ≡ Gap → ⊥) → DownAfter cause b
    down_ok Failed b d = tt
    down_ok Ended b d = tt
    down_ok Gap b d = absurd (d refl)

    ends_down : (cause : Cause) (event : Event) (rest : List Event) → (event ∷ rest) ≡ Down s cause ∷ [] → IsPlaced plan h n event → (n ≡ (plan.stream s).destination → DownAfter cause (is_after_gap (journal g n) s)) → Goes h g n time caller event rest
    ends_down cause event rest e placed after =
        let head : event ≡ Down s cause = cc in
        let tail : rest ≡ [] = cc in
        let here : n ≡ (plan.stream s).destination = subst (λ (x : Event). IsPlaced plan h n x) head placed in
        subst (λ (x : Event). Goes h g n time caller x rest) (sym head) (record {
          placed = here;
          cause = (attached, after here);
          mine = (tt, λ t i. same_stream s t refl i, λ c i. cc);
          next = Over;
          fits = tail;
          stands = tt;
        })

    one_event : (x : FlowAt) (event : Event) (rest : List Event) → Fits x (event ∷ rest) → Stands x g → IsPlaced plan h n event → Goes h g n time caller event rest
    one_event (Turning turns) (Idle t) rest f i placed = record { placed = placed; cause = attached_at t f.1; mine = (tt, λ u e. same_stream t u f.1 e, λ c e. cc); next = Turning (turns - 1); fits = f.2; stands = tt }
    one_event (Turning turns) (Stale t cut) rest f i placed = record { placed = placed; cause = attached_at t f.1; mine = (tt, λ u e. same_stream t u f.1 e, λ c e. cc); next = Over; fits = f.2; stands = tt }
    one_event (Turning turns) (Sent msg) rest f i placed = record { placed = placed; cause = attached_at msg.stream f.1; mine = (tt, λ u e. same_stream msg.stream u f.1 e, λ c e. cc); next = Taking (turns - 1) msg; fits = f.3; stands = (f.1, inl refl) }
    one_event (Turning turns) _ rest f i placed = absurd f
    one_event (Taking turns m) (Accepted msg at) rest f i placed =
        let stream : msg.stream ≡ s = ap (λ (x : Msg). x.stream) f.0 ∙ i.0 in
        record { placed = placed; cause = subst (λ (x : Msg). WasSent g x) (sym f.0) i.1; mine = (tt, λ u e. same_stream msg.stream u stream e, λ c e. cc); next = Turning turns; fits = f.1; stands = tt }
    one_event (Taking turns m) (Gapped msg has) rest f i placed =
        let stream : msg.stream ≡ s = ap (λ (x : Msg). x.stream) f.0 ∙ i.0 in
        let here : n ≡ (plan.stream s).destination = placed ∙ ap (λ (x : ℕ). (plan.stream x).destination) stream in
        record {
          placed = placed;
          cause = subst (λ (x : Msg). WasSent g x) (sym f.0) i.1;
          mine = (tt, λ u e. same_stream msg.stream u stream e, λ c e. cc);
          next = Ending;
          fits = f.1;
          stands = gap_here (nat_eq n (plan.stream s).destination) true (record { time = time; caller = caller; event = Gapped msg has }) (journal g (plan.stream s).destination) ((Decides-eqb n (plan.stream s).destination).1 here) ((Decides-eqb msg.stream s).1 stream) refl;
        }
    one_event (Taking turns m) (Down t cause) rest f i placed = record { placed = placed; cause = (attached_at t f.0, down_ok cause (is_after_gap (journal g n) t) f.1); mine = (tt, λ u e. same_stream t u f.0 e, λ c e. cc); next = Over; fits = f.2; stands = tt }
    one_event (Taking turns m) _ rest f i placed = absurd f
    one_event Ending event rest f i placed = ends_down Gap event rest f placed (λ here. subst (λ (x : ℕ). IsTrue (is_after_gap (journal g x) s)) (sym here) i)
    one_event Failing event rest f i placed = ends_down Failed event rest f placed (λ here. tt)
    one_event Over event rest f i placed = absurd (cc)

-- ---- a job's list, the oldest first

abbrev onto : List New → List New → List New
onto acc [] = acc
onto acc (x ∷ xs) = onto (x ∷ acc) xs

append_new : (a : List New) (e : New) (h : List New) → (a ++ (e ∷ [])) ++ h ≡ a ++ (e ∷ h)
append_new [] e h = refl
append_new (x ∷ a) e h = ap (λ (y : List New). x ∷ y) (append_new a e h)

append_nil : (xs : List New) → xs ++ [] ≡ xs
append_nil [] = refl
append_nil (x ∷ xs) = ap (λ (z : List New). x ∷ z) (append_nil xs)

onto_reversed : (acc xs : List New) → onto acc xs ≡ reverse xs ++ acc
onto_reversed acc [] = refl
onto_reversed acc (x ∷ xs) = onto_reversed (x ∷ acc) xs ∙ sym (append_new (reverse xs) x acc) ∙ ap (λ (y : List New). y ++ acc) (sym (reverse-append (x ∷ []) xs))

onto_whole : (t : List New) → onto [] (reverse t) ≡ t
onto_whole t = onto_reversed [] (reverse t) ∙ append_nil (reverse (reverse t)) ∙ reverse-reverse t

standing_first : (plan : Plan) (h : List NodeEntry) (acc xs : List New) → AreStanding plan h (onto acc xs) → AreStanding plan h acc
standing_first plan h acc [] a = a
standing_first plan h acc (x ∷ xs) a = (standing_first plan h (x ∷ acc) xs a).1

abbrev AllNew : (Event → Type 0) → List New → Type 0
AllNew Q [] = Unit {0}
AllNew Q (x ∷ t) = Q x.made.entry.event × AllNew Q t

module _ (plan : Plan) (h : List NodeEntry) where
  flow_run : (s : ℕ) → IsAttached h s → (acc xs : List New) (rest : List NodeEntry) (x : FlowAt) → Fits plan s x (events_of (plain xs ++ rest)) → Stands plan s x (plain acc ++ h)
      → AreStanding plan h (onto acc xs) → IsJobRun plan h acc → AllNew (IsFlows plan s) acc → IsJobRun plan h (onto acc xs) × AllNew (IsFlows plan s) (onto acc xs)
  flow_run s attached acc [] rest x f i a run all = (run, all)
  flow_run s attached acc (y ∷ xs) rest x f i a run all =
      let here = (standing_first plan h (y ∷ acc) xs a).0 in
      let g : Goes plan s h (plain acc ++ h) y.made.node y.made.entry.time y.made.entry.caller y.made.entry.event (events_of (plain xs ++ rest)) =
      one_event plan s h (plain acc ++ h) (some_more (λ event. Attaches event s) (plain acc) h attached) y.made.node y.made.entry.time y.made.entry.caller x y.made.entry.event (events_of (plain xs ++ rest)) f i here.1 in
      flow_run s attached (y ∷ acc) xs rest g.next g.fits g.stands a ((here.0, g.placed, g.cause, here.2, here.3), run) (g.mine, all)

  -- ---- a client's job

  -- the event is of the client and of no stream, and it is no Missing and no move
  abbrev IsClients : ℕ → Event → Type 0
  IsClients c event = IsNoMissing event × ((t : ℕ) → IsTrue (is_of_stream event t) → ⊥) × ((d : ℕ) → IsTrue (is_of_client event d) → d ≡ c)

  record Comes (g : List NodeEntry) (c n time caller : ℕ) (event : Event) : Type 0 where
    placed : IsPlaced plan g n event
    cause : HasCause g n event
    mine : IsClients c event
    node : client_node plan (entry_at n time caller event ∷ g) c ≡ client_node plan g c

  same_client : (x c t : ℕ) → x ≡ c → IsTrue (nat_eq x t) → t ≡ c
  same_client x c t e i = sym ((Decides-eqb x t).0 i) ∙ e

  moved_over : (g : List NodeEntry) (c n x : ℕ) → client_node plan g c ≡ client_node plan h c → x ≡ c → n ≡ client_node plan h x → n ≡ client_node plan g x
  moved_over g c n x same e p = p ∙ ap (λ (z : ℕ). client_node plan h z) e ∙ sym same ∙ ap (λ (z : ℕ). client_node plan g z) (sym e)

  one_command : (g : List NodeEntry) (c n time caller : ℕ) (command : Command) (event : Event) → client_node plan g c ≡ client_node plan h c → IsCommandOf c command → Gives command n event → IsPlaced plan h n event → Comes g c n time caller event
  one_command g c n time caller (ToWrite d o body gone) (Wrote client write bytes after) same is gives placed =
      let e : client ≡ c = gives.0 ∙ is in record { placed = moved_over g c n client same e placed; cause = tt; mine = (tt, λ t i. cc, λ t i. same_client client c t e i); node = refl }
  one_command g c n time caller (ToWrite d o body gone) (Behind client needs has) same is gives placed =
      let e : client ≡ c = gives ∙ is in record { placed = moved_over g c n client same e placed; cause = tt; mine = (tt, λ t i. cc, λ t i. same_client client c t e i); node = refl }
  one_command g c n time caller (ToRead d o) (Answered client name answer at) same is gives placed =
      let e : client ≡ c = gives.0 ∙ is in record { placed = moved_over g c n client same e placed; cause = tt; mine = (tt, λ t i. cc, λ t i. same_client client c t e i); node = refl }
  one_command g c n time caller (ToRead d o) (Behind client needs has) same is gives placed =
      let e : client ≡ c = gives ∙ is in record { placed = moved_over g c n client same e placed; cause = tt; mine = (tt, λ t i. cc, λ t i. same_client client c t e i); node = refl }
  one_command g c n time caller (ToWrite d o body gone) _ same is gives placed = absurd gives
  one_command g c n time caller (ToRead d o) _ same is gives placed = absurd gives
  one_command g c n time caller _ event same is gives placed = absurd is

  client_run : (c : ℕ) (commands : List Command) (acc xs : List New) (rest : List NodeEntry) → AreCommandsOf c commands → AreOfCommands commands (plain xs ++ rest) → client_node plan (plain acc ++ h) c ≡ client_node plan h c
      → AreStanding plan h (onto acc xs) → IsJobRun plan h acc → AllNew (IsClients c) acc → IsJobRun plan h (onto acc xs) × AllNew (IsClients c) (onto acc xs)
  client_run c commands acc [] rest are gives same a run all = (run, all)
  client_run c [] acc (y ∷ xs) rest are gives same a run all = absurd (cc)
  client_run c (command ∷ commands) acc (y ∷ xs) rest are gives same a run all =
      let here = (standing_first plan h (y ∷ acc) xs a).0 in
      let g : Comes (plain acc ++ h) c y.made.node y.made.entry.time y.made.entry.caller y.made.entry.event = one_command (plain acc ++ h) c y.made.node y.made.entry.time y.made.entry.caller command y.made.entry.event same are.0 gives.0 here.1 in
      client_run c commands (y ∷ acc) xs rest are.1 gives.1 (g.node ∙ same) a ((here.0, g.placed, g.cause, here.2, here.3), run) (g.mine, all)

  -- ---- each job

  abbrev IsOfJob : (ℕ → ℕ) → (ℕ → ℕ) → ℕ → Event → Type 0
  IsOfJob streams clients k event = IsNoMissing event × ((s : ℕ) → IsTrue (is_of_stream event s) → k ≡ streams s) × ((c : ℕ) → IsTrue (is_of_client event c) → k ≡ clients c)

  all_map : (Q R : Event → Type 0) (t : List New) → ((e : Event) → Q e → R e) → AllNew Q t → AllNew R t
  all_map Q R [] f a = tt
  all_map Q R (x ∷ t) f a = (f x.made.entry.event a.0, all_map Q R t f a.1)

  whole_run : (streams clients : ℕ → ℕ) (k : ℕ) (job : Job) (t : List New) → IsApartJob h streams clients k job → JobBegins job (plain (reverse t)) → AreStanding plan h (onto [] (reverse t))
      → IsJobRun plan h (onto [] (reverse t)) × AllNew (IsOfJob streams clients k) (onto [] (reverse t))
  whole_run streams clients k (ClientJob commands) t apart begins a =
      let r = client_run apart.0 commands [] (reverse t) begins.0 apart.1 begins.1 refl a tt tt in
      (r.0, all_map (IsClients apart.0) (IsOfJob streams clients k) (onto [] (reverse t)) (λ e q. (q.0, λ s i. absurd (q.1 s i), λ c i. sym apart.2 ∙ ap (λ (z : ℕ). clients z) (sym (q.2 c i)))) r.1)
  whole_run streams clients k (FlowJob s turns) t apart begins a =
      let r : IsJobRun plan h (onto [] (reverse t)) × AllNew (IsFlows plan s) (onto [] (reverse t)) = elim begins.1 [
        | inl turned ↦ flow_run s apart.0 [] (reverse t) begins.0 (Turning turns) turned tt a tt tt
        | inr failed ↦ flow_run s apart.0 [] (reverse t) begins.0 Failing failed tt a tt tt
      ] in
      (r.0, all_map (IsFlows plan s) (IsOfJob streams clients k) (onto [] (reverse t)) (λ e q. (q.0, λ u i. sym apart.1 ∙ ap (λ (z : ℕ). streams z) (sym (q.1 u i)), λ c i. absurd (q.2 c i))) r.1)

  job_run : (streams clients : ℕ → ℕ) (k : ℕ) (job : Job) (t : List New) → IsApartJob h streams clients k job → JobBegins job (plain (reverse t)) → AreStanding plan h t
      → IsJobRun plan h t × AllNew (IsOfJob streams clients k) t
  job_run streams clients k job t apart begins a =
      subst (λ (z : List New). IsJobRun plan h z × AllNew (IsOfJob streams clients k) z) (onto_whole t)
      (whole_run streams clients k job t apart begins (subst (λ (z : List New). AreStanding plan h z) (sym (onto_whole t)) a))

  -- a job past the last has no entries
  none_past : (new : List New) (m k : ℕ) → m ≤ k → All (λ (x : New). x.job < m) new → of_job new k ≡ []
  none_past [] m k le a = refl
  none_past (x ∷ t) m k le a =
      let lt : x.job < m = a 0 x (omega arith) in
      let other : nat_eq x.job k ≡ false = elim (eqb_tells x.job k) [ inl same ↦ let e : x.job ≡ k = same.1 in absurd (omega arith) | inr not ↦ not.0 ] in
      ap (λ (b : Bool). cond b (x ∷ of_job t k) (of_job t k)) other ∙ none_past t m k le (λ i d l. a (suc i) d (omega arith))

  first_or_past : (m k : ℕ) → m ≤ k → (k ≡ m) ⊎ (m + 1 ≤ k)
  first_or_past m k le = grind (arith, nat_tests)

  each_run : (streams clients : ℕ → ℕ) (jobs : List Job) (m : ℕ) (new : List New) → AreApartJobs h streams clients jobs m → EachBegins jobs m new → ((k : ℕ) → AreStanding plan h (of_job new k))
      → (k : ℕ) → m ≤ k → IsJobRun plan h (of_job new k) × AllNew (IsOfJob streams clients k) (of_job new k)
  each_run streams clients [] m new apart begins a k le = subst (λ (z : List New). IsJobRun plan h z × AllNew (IsOfJob streams clients k) z) (sym (none_past new m k le begins)) (tt, tt)
  each_run streams clients (job ∷ jobs) m new apart begins a k le = elim (first_or_past m k le) [
    | inl here ↦ subst (λ (z : ℕ). IsJobRun plan h (of_job new z) × AllNew (IsOfJob streams clients z) (of_job new z)) (sym here) (job_run streams clients m job (of_job new m) apart.0 begins.0 (a m))
    | inr past ↦ each_run streams clients jobs (m + 1) new apart.1 begins.1 a k past
  ]

all_first : (Q : Event → Type 0) (b : Bool) (x : New) (t : List New) → b ≡ true → AllNew Q (cond b (x ∷ t) t) → Q x.made.entry.event
all_first Q true x t e a = a.0
all_first Q false x t e a = cc

all_later : (Q : Event → Type 0) (b : Bool) (x : New) (t : List New) → AllNew Q (cond b (x ∷ t) t) → AllNew Q t
all_later Q true x t a = a.1
all_later Q false x t a = a

apart_all : (plan : Plan) (h : List NodeEntry) (streams clients : ℕ → ℕ) (new : List New) → ((k : ℕ) → AllNew (IsOfJob plan h streams clients k) (of_job new k)) → AreApart streams clients new
apart_all plan h streams clients [] a = tt
apart_all plan h streams clients (x ∷ t) a = (
  all_first (IsOfJob plan h streams clients x.job) (nat_eq x.job x.job) x (of_job t x.job) ((Decides-eqb x.job x.job).1 refl) (a x.job),
  apart_all plan h streams clients t (λ k. all_later (IsOfJob plan h streams clients k) (nat_eq x.job k) x (of_job t k) (a k)),
)

pub phase_jobs_merge : PhaseJobsMerge
phase_jobs_merge plan h new jobs streams clients v apart begins nodes a =
    merges plan h new streams clients v nodes
    (λ k. (each_run plan h streams clients jobs 0 new apart begins a k (omega arith)).0)
    (apart_all plan h streams clients new (λ k. (each_run plan h streams clients jobs 0 new apart begins a k (omega arith)).1))

-- ---- marked phases

append_none : (xs : List NodeEntry) → xs ++ [] ≡ xs
append_none [] = refl
append_none (x ∷ xs) = ap (λ (z : List NodeEntry). x ∷ z) (append_none xs)

as_begun : (b : Bool) (job : Job) (es : List NodeEntry) → JobGivesAs b job es → JobBegins job es
as_begun true job es g = ([], subst (λ (z : List NodeEntry). JobGives job z) (sym (append_none es)) g)
as_begun false job es g = g

each_begun : (whole : ℕ → Bool) (jobs : List Job) (k : ℕ) (xs : List JobEntry) → EachJobAs whole jobs k xs → EachJob JobBegins jobs k xs
each_begun whole [] k xs e = e
each_begun whole (job ∷ jobs) k xs e = (as_begun (whole k) job (scripts.of_job xs k) e.0, each_begun whole jobs (k + 1) xs e.1)

each_all : (jobs : List Job) (k : ℕ) (xs : List JobEntry) → EachJobAs (λ k. true) jobs k xs → EachJob JobGives jobs k xs
each_all [] k xs e = e
each_all (job ∷ jobs) k xs e = (e.0, each_all jobs (k + 1) xs e.1)

each_of_all : (jobs : List Job) (k : ℕ) (xs : List JobEntry) → EachJob JobGives jobs k xs → EachJobAs (λ k. true) jobs k xs
each_of_all [] k xs e = e
each_of_all (job ∷ jobs) k xs e = (e.0, each_of_all jobs (k + 1) xs e.1)

pub marked_phases : MarkedPhases
marked_phases = record {
  all = λ order jobs es p. (p.0, p.1, each_all jobs 0 p.0 p.2, p.3);
  begun = λ whole order jobs es p. (p.0, p.1, each_begun whole jobs 0 p.0 p.2, p.3);
  of_all = λ order jobs es p. (p.0, p.1, each_of_all jobs 0 p.0 p.2, p.3);
}

-- ---- one job's own list

all_append : (Q : Event → Type 0) (a b : List New) → AllNew Q (a ++ b) → AllNew Q a × AllNew Q b
all_append Q [] b all = (tt, all)
all_append Q (x ∷ a) b all = let r = all_append Q a b all.1 in ((all.0, r.0), r.1)

all_reverse : (Q : Event → Type 0) (t : List New) → AllNew Q (reverse t) → AllNew Q t
all_reverse Q [] all = tt
all_reverse Q (x ∷ t) all =
    let r = all_append Q (reverse t) (x ∷ []) (subst (λ (z : List New). AllNew Q z) (reverse-append (x ∷ []) t) all) in
    (r.1.0, all_reverse Q t r.0)

own_apart : (plan : Plan) (h : List NodeEntry) (streams clients : ℕ → ℕ) (k : ℕ) (own : List New) → All (λ (x : New). x.job ≡ k) own → AllNew (IsOfJob plan h streams clients k) own → AreApart streams clients own
own_apart plan h streams clients k [] own all = tt
own_apart plan h streams clients k (x ∷ t) own all =
    let is : x.job ≡ k = own 0 x (omega arith) in
    ((all.0.0, λ s i. is ∙ all.0.1 s i, λ c i. is ∙ all.0.2 c i), own_apart plan h streams clients k t (λ i d lt. own (suc i) d (omega arith)) all.1)

pub jobs_are_runs : JobsAreRuns
jobs_are_runs plan h streams clients k job own apart begins of_k a =
    let r = job_run plan h streams clients k job (reverse own) apart (subst (λ (z : List New). JobBegins job (plain z)) (sym (reverse-reverse own)) begins) a in
    (r.0, own_apart plan h streams clients k own of_k (all_reverse (IsOfJob plan h streams clients k) own r.1))

line_begun : (whole : ℕ → Bool) (order : Order) (attached : List ℕ) (line : Line) (es : List NodeEntry) → LineBeginsAs whole order attached line es → LineBegins order attached line es
line_begun whole order attached (Phase jobs) es b = (b.0, b.1, each_begun whole jobs 0 b.0 b.2, b.3)
line_begun whole order attached (Single command) es b = b
line_begun whole order attached Expect es b = b
line_begun whole order attached (Detach s) es b = b
line_begun whole order attached (Flow s turns) es b = b
line_begun whole order attached Settle es b = b

lines_begun : (whole : ℕ → Bool) (order : Order) (streams : List ℕ) (attached : ℕ → Bool) (lines : List Line) (es : List NodeEntry) → AreBegunAs whole order streams attached lines es → AreBegun order streams attached lines es
lines_begun whole order streams attached [] es b = b
lines_begun whole order streams attached (line ∷ lines) es b = elim b [
  | inl here ↦ inl (line_begun whole order (filter attached streams) line es here)
  | inr later ↦ inr (later.0, later.1, later.2, later.3, lines_begun whole order streams (attached_after line attached) lines later.1 later.4)
]

pub marked_is_begun : MarkedIsBegun
marked_is_begun whole order streams lines h b = lines_begun whole order streams (λ s. false) lines (reverse h) b
