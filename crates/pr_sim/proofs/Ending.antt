-- How the calls of an engine end that make an event of no stream.
use Rattle.std.proofs.Common.{◌≡◌, ℕ, ◌<◌, List, ◌∷◌, Ok, refl, sym, ◌∙◌, ap, subst, length, get_or, set}
use Rattle.std.specs.Prelude.{true, Bool, IsTrue, Some, None, Option}
use Rattle.std.proofs.lemmas.List.{length-set}
use Rattle.pr_vectors.specs.Vector.{zero_vector}
use Rattle.pr_node.specs.Calls.{Adds, AddsAlone, AddsOfClient, IsMoveOf, IsStateEvent}
use Rattle.pr_node.specs.Stored.{Stored, means}
use Rattle.pr_story.specs.declared.entry.Entry.{Entry}
use Rattle.pr_story.specs.declared.event.Event.{Event}
use Rattle.pr_story.specs.declared.event.Event.TheVariants.{Moved, State}
use Rattle.pr_story.specs.Clients.{client_vector, is_of_client, is_with_needs, seen_after}
use Rattle.pr_story.specs.Commands.{Command, Gives, ToMove, ToTellState}
use Rattle.pr_story.specs.History.{Plan, NodeEntry, journal}
use Rattle.pr_story.specs.Lawful.{HasCause, IsOwnLawful, IsPlaced}
use Rattle.pr_story.specs.Turns.{is_of_stream, standing}
use Rattle.pr_merge.specs.Holding.{AreSessions}
use Rattle.pr_sim.specs.Running.{AreClients, AreRoutes, AreScans, AreSent, IsRunning, Stands}
use Rattle.pr_story.specs.Counts.{Declared}
use Rattle.pr_sim.specs.Commands.{GivesIt, MakesOne}
use Rattle.pr_story.proofs.OfStreams.{IsOfNoClient, IsOfNoStream}
use Rattle.pr_sim.proofs.Quiet.{clients_stay, index_stays, no_session, nothing_sent, sessions_stay}
use Rattle.pr_node.proofs.OfClients.{IsOfClient}
use Rattle.pr_story.proofs.OfStreams.{not_equal}
use Rattle.pr_sim.proofs.OfClients.{client_moved, client_saw}
use Rattle.pr_sim.proofs.Running.{never, only, runs_more}
use Rattle.pr_sim.proofs.Scans.{attaches_none, scans_more}
use Rattle.pr_sim.proofs.Step.{HasMoved, length_put, one_step, own_lawful, journal_then}
use Rattle.pr_sim.specs.declared.engine.Engine.{Engine}

-- ---- one event

-- what is asked of an event of no stream and no client
pub record IsQuiet (plan : Plan) (h : List NodeEntry) (n : ℕ) (command : Command) (event : Event) : Type 0 where
  pub no_stream : IsOfNoStream event
  pub no_client : IsOfNoClient event
  pub placed : IsPlaced plan h n event
  pub cause : HasCause h n event
  pub gives : Gives command n event

pub state_quiet : (plan : Plan) (h : List NodeEntry) (n : ℕ) (event : Event) → IsStateEvent event → IsQuiet plan h n (ToTellState n) event
state_quiet plan h n (State at cut floor precise) is = record { no_stream = λ s. refl; no_client = λ c. refl; placed = tt; cause = tt; gives = refl }
state_quiet plan h n _ is = absurd is

pub record SameRest (e f : Engine) : Type 0 where
  pub sessions : f.sessions ≡ e.sessions
  pub routes : f.routes ≡ e.routes
  pub sent : f.sent ≡ e.sent
  pub scans : f.scans ≡ e.scans
  pub homes : f.homes ≡ e.homes
  pub seen : f.seen ≡ e.seen

module _ (d : Declared) (attached : ℕ → Bool) (h : List NodeEntry) (e f : Engine) (running : IsRunning d attached h e) (n : ℕ) (m x : Stored) (place : ℕ) (moved : HasMoved e f n m x place) (caller : ℕ) where
  k : Stands d.plan h e
  k = running.stands

  many_nodes : length e.nodes.items ≡ length f.nodes.items
  many_nodes = sym (ap (λ (nodes : List (Option Stored)). length nodes) moved.nodes ∙ length_put e.nodes.items n x)

  -- the entry is one of no stream: so the sessions, the routes and the index stay
  pub free_ends : (command : Command) (P : Entry → Type 0) (needs : ℕ → List ℕ) (a : Adds (means m) (means x) (standing d.plan h) needs caller P)
      → f.sessions ≡ e.sessions → f.routes ≡ e.routes → f.sent ≡ e.sent → f.scans ≡ e.scans
      → IsOfNoStream a.entry.event
      → ((c : ℕ) → IsTrue (is_with_needs a.entry.event c) → needs c ≡ client_vector h c)
      → IsPlaced d.plan h n a.entry.event → HasCause h n a.entry.event → Gives command n a.entry.event
      → AreClients d.plan (record { node = n; entry = a.entry } ∷ h) (length e.nodes.items) f.homes.items f.seen.items
      → ((c : ℕ) → is_of_client a.entry.event c ≡ true → c < length e.homes.items) → length f.homes.items ≡ length e.homes.items
      → MakesOne d attached h (GivesIt command) f (Ok tt)
  free_ends command P needs a same_sessions same_routes same_sent same_scans no_stream seen placed cause gives clients known homes =
      let base = one_step d.plan h e f k n m x place moved (standing d.plan h) needs caller P a
      (λ s on. absurd (no_session a.entry.event s (no_stream s) on)) seen placed cause (nothing_sent a.entry.event no_stream) in
      let new : NodeEntry = record { node = n; entry = a.entry } in
      let stands : Stands d.plan (new ∷ h) f = record {
        valid = base.valid;
        grammar = base.grammar;
        places_are = base.places_are;
        nodes = base.nodes;
        sessions = subst (λ xs. AreSessions d.plan (new ∷ h) xs.items) (sym same_sessions) (sessions_stay d.plan new h e.sessions.items no_stream k.sessions);
        clients = subst (λ count. AreClients d.plan (new ∷ h) count f.homes.items f.seen.items) many_nodes clients;
        routes = subst (λ count. AreRoutes d.plan count f.routes.items) many_nodes (subst (λ xs. AreRoutes d.plan (length e.nodes.items) xs.items) (sym same_routes) k.routes);
        sent = subst (λ xs. AreSent (new ∷ h) xs.items) (sym same_sent) (index_stays new h e.sent.items no_stream k.sent);
        many = ap (λ xs. length xs.items) same_routes ∙ k.many ∙ sym (ap (λ xs. length xs.items) same_sessions);
        many_sent = ap (λ xs. length xs.items) same_sent ∙ k.many_sent ∙ sym (ap (λ xs. length xs.items) same_sessions);
        scans = subst (λ xs. AreScans d.plan (new ∷ h) xs.items) (sym same_scans) (scans_more d.plan new h e.scans.items (attaches_none a.entry.event no_stream) k.scans);
        many_scans = ap (λ xs. length xs.items) same_scans ∙ k.many_scans ∙ sym (ap (λ xs. length xs.items) same_sessions);
      } in (
        new,
        runs_more d attached attached h e f new running stands moved.within known (never (length e.sessions.items) (λ s. is_of_stream a.entry.event s) no_stream)
            (sym many_nodes) homes (ap (λ xs. length xs.items) same_sessions)
            (λ s y is. running.attached_are s y (subst (λ xs. get_or xs.items s None ≡ Some y) same_sessions is)),
        gives,
      )

  -- an event of no stream and no client
  pub quiet_ends_by : (rest : SameRest e f) (command : Command) (P : Entry → Type 0) → AddsAlone (means m) (means x) caller P
      → ((entry : Entry) → P entry → IsQuiet d.plan h n command entry.event) → MakesOne d attached h (GivesIt command) f (Ok tt)
  quiet_ends_by rest command P adds is =
      let a = adds (standing d.plan h) (client_vector h) in
      let q : IsQuiet d.plan h n command a.entry.event = is a.entry a.is in
      let new : NodeEntry = record { node = n; entry = a.entry } in
      free_ends command P (client_vector h) a rest.sessions rest.routes rest.sent rest.scans q.no_stream (λ c on. refl) q.placed q.cause q.gives
      (subst (λ xs. AreClients d.plan (new ∷ h) (length e.nodes.items) xs.items f.seen.items) (sym rest.homes)
      (subst (λ xs. AreClients d.plan (new ∷ h) (length e.nodes.items) e.homes.items xs.items) (sym rest.seen)
      (clients_stay d.plan new h (length e.nodes.items) e.homes.items e.seen.items q.no_client k.clients)))
      (never (length e.homes.items) (λ c. is_of_client a.entry.event c) q.no_client) (ap (λ xs. length xs.items) rest.homes)

  pub quiet_ends : (rest : SameRest e f) (command : Command) (event : Event) (P : Entry → Type 0)
      → AddsAlone (means m) (means x) caller P → ((entry : Entry) → P entry → entry.event ≡ event)
      → IsOfNoStream event → IsOfNoClient event → IsPlaced d.plan h n event → HasCause h n event → Gives command n event
      → MakesOne d attached h (GivesIt command) f (Ok tt)
  quiet_ends rest command event P adds is no_stream no_client placed cause gives =
      quiet_ends_by rest command P adds
      (λ entry p. subst (λ (v : Event). IsQuiet d.plan h n command v) (sym (is entry p)) (record { no_stream = no_stream; no_client = no_client; placed = placed; cause = cause; gives = gives }))

  -- an event of a client that moves
  pub move_ends : (client : ℕ) → f.sessions ≡ e.sessions → f.routes ≡ e.routes → f.sent ≡ e.sent → f.scans ≡ e.scans → f.homes.items ≡ set e.homes.items client n → f.seen ≡ e.seen
      → client < length e.homes.items → AddsAlone (means m) (means x) caller (IsMoveOf client) → MakesOne d attached h (GivesIt (ToMove client n)) f (Ok tt)
  move_ends client same_sessions same_routes same_sent same_scans homes seen known adds =
      let a = adds (standing d.plan h) (client_vector h) in
      let new : NodeEntry = record { node = n; entry = a.entry } in
      let is : Moved client ≡ a.entry.event = sym a.is in
      free_ends (ToMove client n) (IsMoveOf client) (client_vector h) a same_sessions same_routes same_sent same_scans
      (subst (λ (v : Event). IsOfNoStream v) is (λ s. refl)) (λ c on. refl)
      (subst (λ (v : Event). IsPlaced d.plan h n v) is tt) (subst (λ (v : Event). HasCause h n v) is tt) (subst (λ (v : Event). Gives (ToMove client n) n v) is (refl, refl))
      (subst (λ xs. AreClients d.plan (new ∷ h) (length e.nodes.items) xs f.seen.items) (sym homes)
      (subst (λ xs. AreClients d.plan (new ∷ h) (length e.nodes.items) (set e.homes.items client n) xs.items) (sym seen)
      (client_moved d.plan new h (length e.nodes.items) e.homes.items e.seen.items client k.clients known moved.within a.is)))
      (only (length e.homes.items) client (λ c. is_of_client a.entry.event c) known
      (λ c other. ap (λ (v : Event). is_of_client v c) a.is ∙ not_equal client c (λ t. other (sym t))))
      (ap (λ xs. length xs) homes ∙ length-set e.homes.items client n)

  -- an event of a client that stands at the node; it has seen this vector then
  pub client_ends : (command : Command) (client : ℕ) (vector needs : List ℕ) (P : Entry → Type 0) → f.sessions ≡ e.sessions → f.routes ≡ e.routes → f.sent ≡ e.sent → f.scans ≡ e.scans
      → f.homes ≡ e.homes → f.seen.items ≡ set e.seen.items client vector → client < length e.homes.items
      → n ≡ get_or e.homes.items client 0 → needs ≡ get_or e.seen.items client zero_vector
      → (adds : AddsOfClient (means m) (means x) needs caller P)
      → ((entry : Entry) → P entry → IsOfClient client command n entry.event)
      → ((entry : Entry) → P entry → IsOwnLawful (standing d.plan h) (λ c. needs) (d.plan.sets n) n (journal h n) entry → (means x).journal ≡ entry ∷ journal h n → vector ≡ seen_after entry.event client needs)
      → MakesOne d attached h (GivesIt command) f (Ok tt)
  client_ends command client vector needs P same_sessions same_routes same_sent same_scans homes seen known at had adds is then =
      let a = adds (standing d.plan h) in
      let q : IsOfClient client command n a.entry.event = is a.entry a.is in
      let new : NodeEntry = record { node = n; entry = a.entry } in
      let needs_is : needs ≡ client_vector h client = had ∙ k.clients.seen_is client known in
      free_ends command P (λ c. needs) a same_sessions same_routes same_sent same_scans q.no_stream (λ c on. needs_is ∙ ap (λ (i : ℕ). client_vector h i) (q.needs_of c on))
      (q.placed d.plan h (at ∙ k.clients.home client known)) (q.cause h) q.gives
      (subst (λ xs. AreClients d.plan (new ∷ h) (length e.nodes.items) xs.items f.seen.items) (sym homes)
      (subst (λ xs. AreClients d.plan (new ∷ h) (length e.nodes.items) e.homes.items xs) (sym seen)
      (client_saw d.plan new h (length e.nodes.items) e.homes.items e.seen.items client vector k.clients known q.stays q.others
      (then a.entry a.is (own_lawful d.plan h e f k n m x place moved (standing d.plan h) (λ c. needs) caller P a) (journal_then d.plan h e f k n m x place moved (standing d.plan h) (λ c. needs) caller P a)
      ∙ ap (λ (v : List ℕ). seen_after a.entry.event client v) needs_is))))
      (only (length e.homes.items) client (λ c. is_of_client a.entry.event c) known q.others) (ap (λ xs. length xs.items) homes)
