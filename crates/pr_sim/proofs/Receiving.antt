-- A message is delivered.
use Rattle.std.proofs.Common.{◌≡◌, ◌≢◌, ◌⊎◌, ℕ, ◌+◌, ◌-◌, ◌<◌, ◌≤◌, List, [], ◌∷◌, Ok, inl, inr, refl, sym, ◌∙◌, ap, subst, max, cond, length, get_or, arith, reverse}
use Rattle.std.specs.Prelude.{true, false, Bool, IsTrue, Some, None, Option}
use Rattle.std.proofs.lemmas.Bool.{cases_eq}
use Rattle.std.proofs.lemmas.Bool.Decides.{Decides-eqb}
use Rattle.std.proofs.lemmas.List.{reverse-reverse}
use Rattle.pr_stamps.specs.Kept.{Kept}
use Rattle.pr_stamps.specs.Point.{Point}
use Rattle.pr_inval.specs.declared.msg.Msg.{Msg}
use Rattle.pr_inval.specs.declared.taken.Taken.{Taken}
use Rattle.pr_inval.specs.declared.taken.Taken.TheVariants as taken
use Rattle.pr_inval.specs.Standing.{HasHeard, Remembered, Standing}
use Rattle.pr_inval.specs.Standing as session
use Rattle.pr_node.specs.Calls.{Adds, AddsAlone, IsMissed, IsTaken}
use Rattle.pr_node.specs.Stored.{Stored, means}
use Rattle.pr_story.specs.declared.entry.Entry.{Entry}
use Rattle.pr_story.specs.declared.event.Event.{Event}
use Rattle.pr_story.specs.declared.event.Event.TheVariants.{Accepted, Gapped, Missing}
use Rattle.pr_story.specs.Clients.{client_vector, is_of_client}
use Rattle.pr_story.specs.Commands.{Gives, ToDeliver}
use Rattle.pr_story.specs.History.{Plan, NodeEntry, Sends, WasSent, journal}
use Rattle.pr_story.specs.Lawful.{HasCause, IsPlaced}
use Rattle.pr_story.specs.Turns.{count_after, position_after, sent_after, is_of_stream, is_timed, is_with_session, standing, position, sent_count, has_sent, stream_time}
use Rattle.pr_inval.specs.Messages.{IsMessage}
use Rattle.pr_sim.specs.Commands.{GivesIt, IsTakingMade, MakesOne}
use Rattle.pr_merge.specs.Holding.{AreSessions, IsSession}
use Rattle.pr_sim.specs.Running.{AreClients, AreRoutes, AreSent, IsRunning, Stands, AreScans}
use Rattle.pr_story.specs.Counts.{Declared}
use Rattle.pr_sim.specs.Messages.{IsPlace, IsSentAt}
use Rattle.pr_story.specs.Places.{IsSending, SendsAt}
use Rattle.pr_story.specs.Places as story
use Rattle.pr_story.specs.Places.{sent_places}
use Rattle.pr_sim.specs.declared.engine.Engine.{Engine}
use Rattle.pr_story.proofs.OfStreams.{not_equal}
use Rattle.pr_sim.proofs.Running.{attached_put, never, only, runs_more}
use Rattle.pr_story.proofs.OfStreams.{IsOfNoClient}
use Rattle.pr_sim.proofs.Quiet.{clients_stay, stands_still}
use Rattle.pr_sim.proofs.Sendings.{none_sent, sendings}
use Rattle.pr_sim.proofs.Step.{HasMoved, here, length_put, one_step, put, some_is, there}
use Rattle.pr_sim.proofs.Scans.{attaches_with, scans_more}

-- ---- what stands there

pub told_at : (nodes : List (Option Stored)) (n : ℕ) (m : Stored) (place : ℕ) (msg : Msg) (list : List Entry) → get_or nodes n None ≡ Some m → reverse list ≡ (means m).journal → IsSentAt nodes n place msg → SendsAt list place msg
told_at nodes n m place msg list was is at =
    let e : at.0 ≡ m = some_is at.0 m (get_or nodes n None) at.1 was in
    let f : reverse (means m).journal ≡ list = ap (λ (xs : List Entry). reverse xs) (sym is) ∙ reverse-reverse list in
    subst (λ (xs : List Entry). SendsAt xs place msg) f (subst (λ (y : Stored). SendsAt (reverse (means y).journal) place msg) e at.2)

pub is_what : (a b : Msg) → b ≡ a → IsMessage a → IsMessage b
is_what a b same good = subst (λ (m : Msg). IsMessage m) (sym same) good

-- ---- events that are given no session

pub record IsReceived (event : Event) : Type 0 where
  pub without : (t : ℕ) → IsTrue (is_with_session event t) → ⊥
  pub no_client : IsOfNoClient event
  pub sends : (msg : Msg) → Sends event msg → ⊥
  pub index : (t at : ℕ) (ps : List ℕ) → story.sent_after event t at ps ≡ ps
  pub position : (t : ℕ) (p : List ℕ) → position_after event t p ≡ p
  pub count : (t k : ℕ) → count_after event t k ≡ k
  pub bodies : (t : ℕ) (o : List ℕ) (p : Point) (b : Bool) → sent_after event t o p b ≡ b

bad : false ≡ true → ⊥
bad e = cc

pub missing_is : (s number : ℕ) → IsReceived (Missing s number)
missing_is s number = record { without = λ t on. bad on; no_client = λ c. refl; sends = λ m b. b; index = λ t at ps. refl; position = λ t p. refl; count = λ t k. refl; bodies = λ t o p b. refl }

pub accepted_is : (msg : Msg) (at : List ℕ) → IsReceived (Accepted msg at)
accepted_is msg at = record { without = λ t on. bad on; no_client = λ c. refl; sends = λ m b. b; index = λ t at ps. refl; position = λ t p. refl; count = λ t k. refl; bodies = λ t o p b. refl }

pub gapped_is : (msg : Msg) (has : List ℕ) → IsReceived (Gapped msg has)
gapped_is msg has = record { without = λ t on. bad on; no_client = λ c. refl; sends = λ m b. b; index = λ t at ps. refl; position = λ t p. refl; count = λ t k. refl; bodies = λ t o p b. refl }

index_same : (e : NodeEntry) (h : List NodeEntry) (sent : List (Kept ℕ)) → IsReceived e.entry.event → AreSent h sent → AreSent (e ∷ h) sent
index_same e h sent r are s d lt = are s d lt ∙ sym (r.index s (length (journal h e.node)) (sent_places h s))

-- a message that is missing leaves the sessions
missed : (plan : Plan) (e : NodeEntry) (h : List NodeEntry) (s number : ℕ) (xs : List (Option Remembered)) → e.entry.event ≡ Missing s number → AreSessions plan h xs → AreSessions plan (e ∷ h) xs
missed plan e h s number xs is are t lt =
    let x = are t lt in
    let r : IsReceived e.entry.event = subst (λ (v : Event). IsReceived v) (sym is) (missing_is s number) in
    let off : is_timed e.entry.event t ≡ false = ap (λ (v : Event). is_timed v t) is in
    let time : cond (is_timed e.entry.event t) e.entry.time 0 ≡ 0 = ap (λ (b : Bool). cond b e.entry.time 0) off in (
      x.0,
      x.1,
      record {
        stream = x.2.stream;
        stands = record {
          names = x.2.stands.names;
          bodies = x.2.stands.bodies;
          position = x.2.stands.position ∙ sym (r.position t (position h t));
          number = x.2.stands.number ∙ sym (r.count t (sent_count h t));
          time = x.2.stands.time ∙ later (stream_time h t) (cond (is_timed e.entry.event t) e.entry.time 0) time;
          sent = λ o p. x.2.stands.sent o p ∙ sym (r.bodies t o p (has_sent h t o p));
        };
        attached = λ on. inr (x.2.attached on);
      },
    )
  where
    later : (a b : ℕ) → b ≡ 0 → a ≡ max a b
    later a b z = omega arith

-- one that was taken is heard of by its session
heard : (plan : Plan) (e : NodeEntry) (h : List NodeEntry) (s : ℕ) (old new : Remembered) → IsReceived e.entry.event → is_timed e.entry.event s ≡ true → HasHeard (session.means old) (session.means new) e.entry.time
    → IsSession plan h s old → IsSession plan (e ∷ h) s new
heard plan e h s old new r on by i = record {
  stream = by.stream ∙ i.stream;
  stands = record {
    names = by.names ∙ i.stands.names;
    bodies = by.bodies ∙ i.stands.bodies;
    position = by.position ∙ i.stands.position ∙ sym (r.position s (position h s));
    number = by.number ∙ i.stands.number ∙ sym (r.count s (sent_count h s));
    time = by.time ∙ ap (λ (t : ℕ). max t e.entry.time) i.stands.time ∙ ap (λ (b : Bool). max (stream_time h s) (cond b e.entry.time 0)) (sym on);
    sent = λ o p. by.sent o p ∙ i.stands.sent o p ∙ sym (r.bodies s o p (has_sent h s o p));
  };
  attached = λ now. inr (i.attached (sym by.attached ∙ now));
}

others : (plan : Plan) (e : NodeEntry) (h : List NodeEntry) (sessions : List (Option Remembered)) (s : ℕ) (new : Remembered) → AreSessions plan h sessions → s < length sessions
    → ((t : ℕ) → (t ≡ s → ⊥) → is_of_stream e.entry.event t ≡ false) → IsSession plan (e ∷ h) s new → AreSessions plan (e ∷ h) (put sessions s new)
others plan e h sessions s new are known off now t lt = by t (let l = length_put sessions s new in omega arith) (cases_eq t s)
  where
    by : (t : ℕ) → t < length sessions → (t ≡ s) ⊎ (t ≡ s → ⊥) → (x : Remembered) × (get_or (put sessions s new) t None ≡ Some x) × IsSession plan (e ∷ h) t x
    by t within (inl same) = subst (λ (i : ℕ). (x : Remembered) × (get_or (put sessions s new) i None ≡ Some x) × IsSession plan (e ∷ h) i x) (sym same) (new, here sessions s new known, now)
    by t within (inr other) = let x = are t within in (x.0, there sessions s t new other ∙ x.1, stands_still plan e h t x.0 (off t other) x.2)

-- what was taken
pub record IsTakenIn (s n : ℕ) (msg : Msg) (entry : Entry) : Type 0 where
  pub received : IsReceived entry.event
  pub timed : is_timed entry.event s ≡ true
  pub off : (t : ℕ) → (t ≡ s → ⊥) → is_of_stream entry.event t ≡ false
  pub placed : (plan : Plan) (h : List NodeEntry) → n ≡ (plan.stream s).destination → IsPlaced plan h n entry.event
  pub cause : (h : List NodeEntry) → WasSent h msg → HasCause h n entry.event

pub taken_in : (s n : ℕ) (msg : Msg) (answer : Taken) (entry : Entry) → msg.stream ≡ s → IsTaken msg answer entry → IsTakenIn s n msg entry
taken_in s n msg (taken.Accepted time) entry of ((at, is), same) = record {
  received = subst (λ (v : Event). IsReceived v) (sym is) (accepted_is msg at);
  timed = ap (λ (v : Event). is_timed v s) is ∙ (Decides-eqb msg.stream s).1 of;
  off = λ t other. ap (λ (v : Event). is_of_stream v t) is ∙ not_equal msg.stream t (λ e. other (sym e ∙ of));
  placed = λ plan h at. subst (λ (v : Event). IsPlaced plan h n v) (sym is) (at ∙ ap (λ (t : ℕ). (plan.stream t).destination) (sym of));
  cause = λ h was. subst (λ (v : Event). HasCause h n v) (sym is) was;
}
taken_in s n msg (taken.Gap needs has time) entry of (is, wants, same) = record {
  received = subst (λ (v : Event). IsReceived v) (sym is) (gapped_is msg has);
  timed = ap (λ (v : Event). is_timed v s) is ∙ (Decides-eqb msg.stream s).1 of;
  off = λ t other. ap (λ (v : Event). is_of_stream v t) is ∙ not_equal msg.stream t (λ e. other (sym e ∙ of));
  placed = λ plan h at. subst (λ (v : Event). IsPlaced plan h n v) (sym is) (at ∙ ap (λ (t : ℕ). (plan.stream t).destination) (sym of));
  cause = λ h was. subst (λ (v : Event). HasCause h n v) (sym is) was;
}

-- a delivery gave it
pub delivered : (s n : ℕ) (msg : Msg) (answer : Taken) (entry : Entry) → msg.stream ≡ s → IsTaken msg answer entry → Gives (ToDeliver s msg.number) n entry.event
delivered s n msg (taken.Accepted time) entry of ((at, is), same) = subst (λ (v : Event). Gives (ToDeliver s msg.number) n v) (sym is) (of, refl)
delivered s n msg (taken.Gap needs has time) entry of (is, wants, same) = subst (λ (v : Event). Gives (ToDeliver s msg.number) n v) (sym is) (of, refl)

-- ---- how a delivery ends

module _ (d : Declared) (attached : ℕ → Bool) (h : List NodeEntry) (e f : Engine) (running : IsRunning d attached h e) (n : ℕ) (m x : Stored) (place : ℕ) (moved : HasMoved e f n m x place) (caller : ℕ) where
  k : Stands d.plan h e
  k = running.stands

  received_ends : (R : NodeEntry → Type 0) (P : Entry → Type 0) (a : Adds (means m) (means x) (standing d.plan h) (client_vector h) caller P)
      → f.routes ≡ e.routes → f.homes ≡ e.homes → f.seen ≡ e.seen → f.sent ≡ e.sent → f.scans ≡ e.scans → length f.sessions.items ≡ length e.sessions.items
      → IsReceived a.entry.event → IsPlaced d.plan h n a.entry.event → HasCause h n a.entry.event → R (record { node = n; entry = a.entry })
      → ((t : ℕ) → is_of_stream a.entry.event t ≡ true → t < length e.sessions.items)
      → ((t : ℕ) (y : Remembered) → get_or f.sessions.items t None ≡ Some y → y.attached ≡ attached t)
      → AreSessions d.plan (record { node = n; entry = a.entry } ∷ h) f.sessions.items
      → (made : NodeEntry) × IsRunning d attached (made ∷ h) f × R made
  received_ends R P a same_routes same_homes same_seen same_sent same_scans many_sessions r placed cause gives streams flags sessions =
      let base = one_step d.plan h e f k n m x place moved (standing d.plan h) (client_vector h) caller P a
      (λ s on. absurd (r.without s on)) (λ c on. refl) placed cause (λ msg sends. absurd (r.sends msg sends)) in
      let new : NodeEntry = record { node = n; entry = a.entry } in
      let many : length e.nodes.items ≡ length f.nodes.items = sym (ap (λ (nodes : List (Option Stored)). length nodes) moved.nodes ∙ length_put e.nodes.items n x) in
      let stands : Stands d.plan (new ∷ h) f = record {
        valid = base.valid;
        grammar = base.grammar;
        places_are = base.places_are;
        nodes = base.nodes;
        sessions = sessions;
        clients = subst (λ count. AreClients d.plan (new ∷ h) count f.homes.items f.seen.items) many
            (subst (λ xs. AreClients d.plan (new ∷ h) (length e.nodes.items) xs.items f.seen.items) (sym same_homes)
            (subst (λ xs. AreClients d.plan (new ∷ h) (length e.nodes.items) e.homes.items xs.items) (sym same_seen)
            (clients_stay d.plan new h (length e.nodes.items) e.homes.items e.seen.items r.no_client k.clients)));
        routes = subst (λ count. AreRoutes d.plan count f.routes.items) many (subst (λ xs. AreRoutes d.plan (length e.nodes.items) xs.items) (sym same_routes) k.routes);
        sent = subst (λ xs. AreSent (new ∷ h) xs.items) (sym same_sent) (index_same new h e.sent.items r k.sent);
        many = ap (λ xs. length xs.items) same_routes ∙ k.many ∙ sym many_sessions;
        many_sent = ap (λ xs. length xs.items) same_sent ∙ k.many_sent ∙ sym many_sessions;
        scans = subst (λ xs. AreScans d.plan (new ∷ h) xs.items) (sym same_scans) (scans_more d.plan new h e.scans.items (λ t to. r.without t (attaches_with a.entry.event t to)) k.scans);
        many_scans = ap (λ xs. length xs.items) same_scans ∙ k.many_scans ∙ sym many_sessions;
      } in (
        new,
        runs_more d attached attached h e f new running stands moved.within (never (length e.homes.items) (λ c. is_of_client a.entry.event c) r.no_client) streams
            (sym many) (ap (λ xs. length xs.items) same_homes) many_sessions flags,
        gives,
      )

  pub miss_ends : (s number : ℕ) → AddsAlone (means m) (means x) caller (IsMissed s number) → f.routes ≡ e.routes → f.homes ≡ e.homes → f.seen ≡ e.seen → f.sent ≡ e.sent → f.scans ≡ e.scans → f.sessions ≡ e.sessions
      → s < length e.sessions.items → n ≡ (d.plan.stream s).destination → ((msg : Msg) → WasSent h msg → msg.stream ≡ s → msg.number ≡ number → ⊥) → MakesOne d attached h (GivesIt (ToDeliver s number)) f (Ok tt)
  miss_ends s number adds same_routes same_homes same_seen same_sent same_scans same_sessions known placed none =
      let a = adds (standing d.plan h) (client_vector h) in
      let is : Missing s number ≡ a.entry.event = sym a.is in
      received_ends (GivesIt (ToDeliver s number) tt) (IsMissed s number) a same_routes same_homes same_seen same_sent same_scans (ap (λ xs. length xs.items) same_sessions)
      (subst (λ (v : Event). IsReceived v) is (missing_is s number)) (subst (λ (v : Event). IsPlaced d.plan h n v) is placed) (subst (λ (v : Event). HasCause h n v) is none) (subst (λ (v : Event). Gives (ToDeliver s number) n v) is (refl, refl))
      (only (length e.sessions.items) s (λ t. is_of_stream a.entry.event t) known (λ t other. ap (λ (v : Event). is_of_stream v t) a.is ∙ not_equal s t (λ q. other (sym q))))
      (λ t y now. running.attached_are t y (subst (λ xs. get_or xs.items t None ≡ Some y) same_sessions now))
      (subst (λ xs. AreSessions d.plan (record { node = n; entry = a.entry } ∷ h) xs.items) (sym same_sessions) (missed d.plan (record { node = n; entry = a.entry }) h s number e.sessions.items a.is k.sessions))

  pub take_ends : (s : ℕ) (old new : Remembered) (msg : Msg) (answer : Taken) → AddsAlone (means m) (means x) caller (IsTaken msg answer) → f.routes ≡ e.routes → f.homes ≡ e.homes → f.seen ≡ e.seen → f.sent ≡ e.sent → f.scans ≡ e.scans
      → s < length e.sessions.items → get_or e.sessions.items s None ≡ Some old → f.sessions.items ≡ put e.sessions.items s new
      → ((entry : Entry) → IsTaken msg answer entry → HasHeard (session.means old) (session.means new) entry.time)
      → n ≡ (d.plan.stream s).destination → WasSent h msg → msg.stream ≡ s → MakesOne d attached h (IsTakingMade msg) f (Ok answer)
  take_ends s old new msg answer adds same_routes same_homes same_seen same_sent same_scans known was same_sessions hears placed sent of =
      let a = adds (standing d.plan h) (client_vector h) in
      let t : IsTakenIn s n msg a.entry = taken_in s n msg answer a.entry of a.is in
      let y = k.sessions s known in
      let i : IsSession d.plan h s old = subst (λ (z : Remembered). IsSession d.plan h s z) (some_is y.0 old (get_or e.sessions.items s None) y.1 was) y.2 in
      let made : NodeEntry = record { node = n; entry = a.entry } in
      let now : HasHeard (session.means old) (session.means new) a.entry.time = hears a.entry a.is in
      received_ends (IsTakingMade msg answer) (IsTaken msg answer) a same_routes same_homes same_seen same_sent same_scans (ap (λ (xs : List (Option Remembered)). length xs) same_sessions ∙ length_put e.sessions.items s new)
      t.received (t.placed d.plan h placed) (t.cause h sent) a.is
      (only (length e.sessions.items) s (λ j. is_of_stream a.entry.event j) known t.off)
      (λ j z is. attached_put e.sessions.items s new attached attached known running.attached_are (now.attached ∙ running.attached_are s old was) (λ l other. refl) j z (subst (λ (xs : List (Option Remembered)). get_or xs j None ≡ Some z) same_sessions is))
      (subst (λ (xs : List (Option Remembered)). AreSessions d.plan (made ∷ h) xs) (sym same_sessions) (others d.plan made h e.sessions.items s new k.sessions known t.off (heard d.plan made h s old new t.received t.timed now i)))

-- ---- the message of a number

pub place_is : (sent : List (Kept ℕ)) (s number : ℕ) (was is : Option ℕ) → ((d : Kept ℕ) → IsPlace (get_or sent s d).items number was) → was ≡ is → (d : Kept ℕ) → IsPlace (get_or sent s d).items number is
place_is sent s number was is place same d = subst (λ (o : Option ℕ). IsPlace (get_or sent s d).items number o) same (place d)

pub found : (plan : Plan) (h : List NodeEntry) (e : Engine) (s number p : ℕ) → Stands plan h e → s < length e.sessions.items → ((d : Kept ℕ) → IsPlace (get_or e.sent.items s d).items number (Some p)) → IsSending plan h s number p
found plan h e s number p k lt place =
    let none : Kept ℕ = record { items = []; room = 0 } in
    let known : s < length e.sent.items = let l : length e.sent.items ≡ length e.sessions.items = k.many_sent in omega arith in
    let at : IsPlace (sent_places h s) number (Some p) = subst (λ (ps : List ℕ). IsPlace ps number (Some p)) (k.sent s none known) (place none) in
    let least : 1 ≤ number = at.0 in
    let most : number ≤ length (sent_places h s) = at.1 in
    let x : IsSending plan h s (number - 1 + 1) (get_or (sent_places h s) (number - 1) 0) = sendings plan s h k.valid (number - 1) (omega arith) in
    let same : number - 1 + 1 ≡ number = omega arith in
    subst (λ (i : ℕ). IsSending plan h s i p) same (subst (λ (i : ℕ). IsSending plan h s (number - 1 + 1) i) (sym at.2) x)

pub not_found : (plan : Plan) (h : List NodeEntry) (e : Engine) (s number : ℕ) → Stands plan h e → s < length e.sessions.items → ((d : Kept ℕ) → IsPlace (get_or e.sent.items s d).items number None)
    → (msg : Msg) → WasSent h msg → msg.stream ≡ s → msg.number ≢ number
not_found plan h e s number k lt place =
    let none : Kept ℕ = record { items = []; room = 0 } in
    let known : s < length e.sent.items = let l : length e.sent.items ≡ length e.sessions.items = k.many_sent in omega arith in
    none_sent plan h s number k.valid (subst (λ (ps : List ℕ). IsPlace ps number None) (k.sent s none known) (place none))

pub at_node : (plan : Plan) (h : List NodeEntry) (e : Engine) (s n number p : ℕ) → Stands plan h e → n ≡ (plan.stream s).source → n < length e.nodes.items → (x : IsSending plan h s number p) → IsSentAt e.nodes.items n p x.msg
at_node plan h e s n number p k source within x =
    let y = k.nodes.each n within in
    (y.0, y.1, subst (λ (j : List Entry). SendsAt (reverse j) p x.msg) (ap (λ (i : ℕ). journal h i) (sym source) ∙ sym y.2.journal_is) x.at)
