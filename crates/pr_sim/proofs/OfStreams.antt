-- What an event of a stream changes.
use Rattle.std.proofs.Common.{◌≡◌, ◌⊎◌, ℕ, ◌+◌, ◌<◌, ◌≤◌, List, [], ◌∷◌, ◌++◌, Ok, inl, inr, refl, sym, ◌∙◌, ap, subst, max, cond, length, get_or, arith, set}
use Rattle.std.specs.Prelude.{true, false, Bool, IsTrue, Some, None, Option, ◌||◌, ◌&&◌, not}
use Rattle.std.proofs.lemmas.Bool.{cases_eq}
use Rattle.std.proofs.lemmas.Bool.Decides.{Decides-eqb}
use Rattle.pr_stamps.specs.Kept.{Kept}
use Rattle.pr_inval.specs.declared.msg.Msg.{Msg}
use Rattle.pr_inval.specs.Standing.{HasDetached, Remembered, SessionMeaning, Standing}
use Rattle.pr_inval.specs.Standing as session
use Rattle.pr_node.specs.declared.answers.turned.Turned.{Turned}
use Rattle.pr_node.specs.declared.answers.turned.Turned.TheVariants as turned
use Rattle.pr_node.specs.Calls.{Adds, IsAttachedAt, IsCheckpointed, IsTurned}
use Rattle.pr_story.specs.Sessions.{HasGoneOn}
use Rattle.pr_node.specs.Stored.{Stored, means}
use Rattle.pr_story.specs.declared.entry.Entry.{Entry}
use Rattle.pr_story.specs.declared.event.Event.{Event}
use Rattle.pr_story.specs.declared.event.Event.TheVariants.{Attached, Sent}
use Rattle.pr_story.specs.Clients.{client_vector, is_of_client}
use Rattle.pr_story.specs.Commands.{Gives, ToAttach, ToCheckpoint, ToSend}
use Rattle.pr_story.specs.History.{Plan, NodeEntry, Sends, journal}
use Rattle.pr_story.specs.Lawful.{HasCause, IsPlaced, last_time}
use Rattle.pr_story.specs.Laws.{StandsFor}
use Rattle.pr_story.specs.Scripts.{Detach, Single, attached_after}
use Rattle.pr_story.specs.Turns.{Attaches, IsAttached, is_of_stream, stream_time}
use Rattle.pr_story.proofs.Short.{valid_short}
use Rattle.pr_inval.specs.Messages.{IsMessage}
use Rattle.std.proofs.lemmas.List.{length-set}
use Rattle.pr_sim.specs.Commands.{GivesIt, MakesOne}
use Rattle.pr_merge.specs.Holding.{AreSessions, IsSession}
use Rattle.pr_sim.specs.Running.{AreClients, AreNodes, AreRoutes, AreSent, IsRunning, Stands, AreScans}
use Rattle.pr_story.specs.Counts.{Declared}
use Rattle.pr_story.specs.Places as story
use Rattle.pr_sim.specs.Places.{HasNoted}
use Rattle.pr_story.specs.Places.{sent_places}
use Rattle.pr_sim.specs.declared.engine.Engine.{Engine}
use Rattle.pr_sim.specs.declared.engine.Route.{Route}
use Rattle.pr_story.proofs.OfStreams.{IsOfStream, attached_is, idle_is, other_stream, same_is, sent_is, stale_is, stands_on}
use Rattle.pr_sim.proofs.Running.{attached_put, never, only, runs_more}
use Rattle.pr_sim.proofs.Quiet.{clients_stay, places_stay, stands_still}
use Rattle.pr_sim.proofs.Step.{HasMoved, here, length_put, one_step, own_lawful, place_of, put, some_is, there, is_node}
use Rattle.pr_node.specs.Scanning.{Scanned, fresh}
use Rattle.pr_sim.proofs.Scans.{scans_anew, scans_more}

-- ---- the session that the call was given

pub session_of : (plan : Plan) (h : List NodeEntry) (sessions : List (Option Remembered)) (s : ℕ) (x : Remembered) → AreSessions plan h sessions → s < length sessions → get_or sessions s None ≡ Some x → IsSession plan h s x
session_of plan h sessions s x are lt was =
    let y = are s lt in
    subst (λ (z : Remembered). IsSession plan h s z) (some_is y.0 x (get_or sessions s None) y.1 was) y.2

pub goes_on : (plan : Plan) (e : NodeEntry) (h : List NodeEntry) (s : ℕ) (old new : Remembered) (attached : Bool) → IsSession plan h s old → HasGoneOn (session.means old) (session.means new) attached e.entry
    → IsOfStream s e.entry.event → e.entry.time ≡ max (last_time (journal h e.node)) (stream_time h s) + 1 → (IsTrue attached → IsAttached (e ∷ h) s) → IsSession plan (e ∷ h) s new
goes_on plan e h s old new attached i on of time is = record {
  stream = on.stream ∙ i.stream;
  stands = stands_on plan e h s (session.means old) (session.means new) attached i.stream i.stands on of.timed (omega (arith, time));
  attached = λ now. is (sym on.is_attached ∙ now);
}

pub sessions_more : (plan : Plan) (e : NodeEntry) (h : List NodeEntry) (sessions : List (Option Remembered)) (s : ℕ) (new : Remembered) → AreSessions plan h sessions → s < length sessions
    → ((t : ℕ) → (t ≡ s → ⊥) → is_of_stream e.entry.event t ≡ false) → IsSession plan (e ∷ h) s new → AreSessions plan (e ∷ h) (put sessions s new)
sessions_more plan e h sessions s new are known others now t lt = by t (let l = length_put sessions s new in omega arith) (cases_eq t s)
  where
    by : (t : ℕ) → t < length sessions → (t ≡ s) ⊎ (t ≡ s → ⊥) → (x : Remembered) × (get_or (put sessions s new) t None ≡ Some x) × IsSession plan (e ∷ h) t x
    by t within (inl same) = subst (λ (i : ℕ). (x : Remembered) × (get_or (put sessions s new) i None ≡ Some x) × IsSession plan (e ∷ h) i x) (sym same) (new, here sessions s new known, now)
    by t within (inr other) = let x = are t within in (x.0, there sessions s t new other ∙ x.1, stands_still plan e h t x.0 (others t other) x.2)

-- ---- the index

pub index_more : (e : NodeEntry) (h : List NodeEntry) (before now : List (Kept ℕ)) (s place : ℕ) → AreSent h before → s < length before → ((t : ℕ) → (t ≡ s → ⊥) → is_of_stream e.entry.event t ≡ false)
    → place ≡ length (journal h e.node) → HasNoted before now s (story.sent_after e.entry.event s place) → AreSent (e ∷ h) now
index_more e h before now s place are known others is noted t d lt = by t (let l : length now ≡ length before = noted.many in omega arith) (cases_eq t s)
  where
    by : (t : ℕ) → t < length before → (t ≡ s) ⊎ (t ≡ s → ⊥) → (get_or now t d).items ≡ sent_places (e ∷ h) t
    by t within (inl same) = subst (λ (i : ℕ). (get_or now i d).items ≡ sent_places (e ∷ h) i) (sym same)
        (noted.here d ∙ ap (λ (i : ℕ). story.sent_after e.entry.event s i (get_or before s d).items) is ∙ ap (λ (xs : List ℕ). story.sent_after e.entry.event s (length (journal h e.node)) xs) (are s d known))
    by t within (inr other) = ap (λ (x : Kept ℕ). x.items) (noted.there t d other) ∙ are t d within ∙ sym (places_stay e.entry.event t (length (journal h e.node)) (sent_places h t) (others t other))

-- room changes no places
pub index_roomy : (h : List NodeEntry) (before now : List (Kept ℕ)) → length now ≡ length before → ((s : ℕ) (d : Kept ℕ) → (get_or now s d).items ≡ (get_or before s d).items) → AreSent h before → AreSent h now
index_roomy h before now many same are s d lt = same s d ∙ are s d (omega arith)

still : (s : ℕ) (before : List (Kept ℕ)) → HasNoted before before s (λ xs. xs)
still s before = record { many = refl; here = λ d. refl; room = λ d. omega arith; there = λ t d other. refl }

-- ---- what a turn is

-- all that is asked of the event of an attached stream at its source
pub record IsAtSource (plan : Plan) (h : List NodeEntry) (n s : ℕ) (event : Event) : Type 0 where
  pub of : IsOfStream s event
  pub placed : IsPlaced plan h n event
  pub cause : HasCause h n event
  pub sends : (msg : Msg) → Sends event msg → IsMessage msg
  pub stays : (t : ℕ) → Attaches event t → ⊥

at_source : (plan : Plan) (h : List NodeEntry) (n s : ℕ) (msg : Msg) → n ≡ (plan.stream s).source → IsAttached h s → msg.stream ≡ s → IsMessage msg → IsAtSource plan h n s (Sent msg)
at_source plan h n s msg at attached is good = record {
  of = sent_is s msg is;
  placed = at ∙ ap (λ (t : ℕ). (plan.stream t).source) (sym is);
  cause = subst (λ (t : ℕ). IsAttached h t) (sym is) attached;
  sends = λ m same. subst (λ (y : Msg). IsMessage y) same good;
  stays = λ t bad. absurd bad;
}

pub turn_at_source : (plan : Plan) (h : List NodeEntry) (n s : ℕ) (t : Turned) (entry : Entry) → n ≡ (plan.stream s).source → IsAttached h s → IsTurned s t entry → IsAtSource plan h n s entry.event
turn_at_source plan h n s turned.Sent entry at attached (msg, (event, of, kind), good) = subst (λ (v : Event). IsAtSource plan h n s v) (sym event) (at_source plan h n s msg at attached of good)
turn_at_source plan h n s turned.Idle entry at attached event =
    subst (λ (v : Event). IsAtSource plan h n s v) (sym event) (record { of = idle_is s; placed = at; cause = attached; sends = λ m bad. absurd bad; stays = λ t bad. absurd bad })
turn_at_source plan h n s turned.Stale entry at attached (cut, event) =
    subst (λ (v : Event). IsAtSource plan h n s v) (sym event) (record { of = stale_is s cut; placed = at; cause = attached; sends = λ m bad. absurd bad; stays = λ t bad. absurd bad })

pub checkpoint_at_source : (plan : Plan) (h : List NodeEntry) (n s : ℕ) (entry : Entry) → n ≡ (plan.stream s).source → IsAttached h s → IsCheckpointed s entry → IsAtSource plan h n s entry.event
checkpoint_at_source plan h n s entry at attached (msg, (event, of, kind), good) = subst (λ (v : Event). IsAtSource plan h n s v) (sym event) (at_source plan h n s msg at attached of good)

-- the commands that give them
pub turn_gives : (s n : ℕ) (t : Turned) (entry : Entry) → IsTurned s t entry → Gives (ToSend s) n entry.event
turn_gives s n turned.Sent entry (msg, (event, of, kind), good) = subst (λ (v : Event). Gives (ToSend s) n v) (sym event) (of, kind)
turn_gives s n turned.Idle entry event = subst (λ (v : Event). Gives (ToSend s) n v) (sym event) refl
turn_gives s n turned.Stale entry (cut, event) = subst (λ (v : Event). Gives (ToSend s) n v) (sym event) refl

pub checkpoint_gives : (s n : ℕ) (entry : Entry) → IsCheckpointed s entry → Gives (ToCheckpoint s) n entry.event
checkpoint_gives s n entry (msg, (event, of, kind), good) = subst (λ (v : Event). Gives (ToCheckpoint s) n v) (sym event) (of, kind)

-- a place was noted for the message that was sent
noted_of : (s place : ℕ) (msg : Msg) (event : Event) (before now : List (Kept ℕ)) → event ≡ Sent msg → msg.stream ≡ s → HasNoted before now s (λ xs. xs ++ place ∷ []) → HasNoted before now s (story.sent_after event s place)
noted_of s place msg event before now is same noted = subst (λ (v : Event). HasNoted before now s (story.sent_after v s place)) (sym is) (record {
  many = noted.many;
  here = λ d. noted.here d ∙ sym (ap (λ (b : Bool). cond b ((get_or before s d).items ++ place ∷ []) (get_or before s d).items) ((Decides-eqb msg.stream s).1 same));
  room = noted.room;
  there = noted.there;
})

pub checkpoint_noted : (s place : ℕ) (entry : Entry) (before now : List (Kept ℕ)) → IsCheckpointed s entry → HasNoted before now s (λ xs. xs ++ place ∷ []) → HasNoted before now s (story.sent_after entry.event s place)
checkpoint_noted s place entry before now (msg, (event, of, kind), good) noted = noted_of s place msg entry.event before now event of noted

pub turn_noted : (s place : ℕ) (t : Turned) (entry : Entry) (before now : List (Kept ℕ)) → t ≡ turned.Sent → IsTurned s t entry → HasNoted before now s (λ xs. xs ++ place ∷ []) → HasNoted before now s (story.sent_after entry.event s place)
turn_noted s place t entry before now is made noted = by (subst (λ (k : Turned). IsTurned s k entry) is made)
  where
    by : IsTurned s turned.Sent entry → HasNoted before now s (story.sent_after entry.event s place)
    by (msg, (event, of, kind), good) = noted_of s place msg entry.event before now event of noted

-- nothing is noted where nothing was sent
pub none_noted : (s place : ℕ) (t : Turned) (entry : Entry) (before : List (Kept ℕ)) → (t ≡ turned.Sent → ⊥) → IsTurned s t entry → HasNoted before before s (story.sent_after entry.event s place)
none_noted s place turned.Sent entry before other made = absurd (other refl)
none_noted s place turned.Idle entry before other event = subst (λ (v : Event). HasNoted before before s (story.sent_after v s place)) (sym event) (still s before)
none_noted s place turned.Stale entry before other (cut, event) = subst (λ (v : Event). HasNoted before before s (story.sent_after v s place)) (sym event) (still s before)

-- ---- one event of a stream

module _ (d : Declared) (attached_before : ℕ → Bool) (h : List NodeEntry) (e f : Engine) (running : IsRunning d attached_before h e) (n : ℕ) (m x : Stored) (place : ℕ) (moved : HasMoved e f n m x place) (caller : ℕ)
    (s : ℕ) (old new : Remembered) (known : s < length e.sessions.items) (was : get_or e.sessions.items s None ≡ Some old) where
  k : Stands d.plan h e
  k = running.stands

  abbrev pub Grown : (ℕ → Bool) → (NodeEntry → Type 0) → Type 0
  Grown after R = (made : NodeEntry) × IsRunning d after (made ∷ h) f × R made

  pub stream_ends : (R : NodeEntry → Type 0) (P : Entry → Type 0) (a : Adds (means m) (means x) (λ _. (session.means old).standing) (client_vector h) caller P) (attached : Bool) (after : ℕ → Bool)
      → f.sessions.items ≡ put e.sessions.items s new → f.routes ≡ e.routes → f.homes ≡ e.homes → f.seen ≡ e.seen
      → IsOfStream s a.entry.event
      → HasGoneOn (session.means old) (session.means new) attached a.entry
      → (IsTrue attached → IsAttached (record { node = n; entry = a.entry } ∷ h) s)
      → attached ≡ after s → ((t : ℕ) → (t ≡ s → ⊥) → attached_before t ≡ after t)
      → IsPlaced d.plan h n a.entry.event → HasCause h n a.entry.event → R (record { node = n; entry = a.entry })
      → ((msg : Msg) → Sends a.entry.event msg → IsMessage msg)
      → length f.sent.items ≡ length e.sent.items
      → (place ≡ length (journal h n) → AreSent (record { node = n; entry = a.entry } ∷ h) f.sent.items)
      → length f.scans.items ≡ length e.scans.items
      → (IsSession d.plan (record { node = n; entry = a.entry } ∷ h) s new → (means x).journal ≡ journal (record { node = n; entry = a.entry } ∷ h) n
      → AreScans d.plan h e.scans.items → AreScans d.plan (record { node = n; entry = a.entry } ∷ h) f.scans.items)
      → Grown after R
  stream_ends R P a attached after same_sessions same_routes same_homes same_seen of on is flag others placed cause gives sends many_sent sent many_scans scans =
      let i : IsSession d.plan h s old = session_of d.plan h e.sessions.items s old k.sessions known was in
      let made : NodeEntry = record { node = n; entry = a.entry } in
      let st : ℕ → Standing = λ _. (session.means old).standing in
      let base = one_step d.plan h e f k n m x place moved st (client_vector h) caller P a
      (λ t with. subst (λ (j : ℕ). StandsFor d.plan h j (session.means old).standing) (sym (of.with t with)) i.stands) (λ c with. refl) placed cause sends in
      let own = own_lawful d.plan h e f k n m x place moved st (client_vector h) caller P a in
      let time : a.entry.time ≡ max (last_time (journal h n)) (stream_time h s) + 1 =
      own.time ∙ ap (λ (t : ℕ). max (last_time (journal h n)) t + 1) (of.heard st ∙ i.stands.time) in
      let many : length e.nodes.items ≡ length f.nodes.items = sym (ap (λ (nodes : List (Option Stored)). length nodes) moved.nodes ∙ length_put e.nodes.items n x) in
      let many_sessions : length f.sessions.items ≡ length e.sessions.items = ap (λ (xs : List (Option Remembered)). length xs) same_sessions ∙ length_put e.sessions.items s new in
      let now : IsSession d.plan (made ∷ h) s new = goes_on d.plan made h s old new attached i on of time is in
      let stands : Stands d.plan (made ∷ h) f = record {
        valid = base.valid;
        grammar = base.grammar;
        places_are = base.places_are;
        nodes = base.nodes;
        sessions = subst (λ (xs : List (Option Remembered)). AreSessions d.plan (made ∷ h) xs) (sym same_sessions)
            (sessions_more d.plan made h e.sessions.items s new k.sessions known of.others now);
        clients = subst (λ count. AreClients d.plan (made ∷ h) count f.homes.items f.seen.items) many
            (subst (λ xs. AreClients d.plan (made ∷ h) (length e.nodes.items) xs.items f.seen.items) (sym same_homes)
            (subst (λ xs. AreClients d.plan (made ∷ h) (length e.nodes.items) e.homes.items xs.items) (sym same_seen)
            (clients_stay d.plan made h (length e.nodes.items) e.homes.items e.seen.items of.no_client k.clients)));
        routes = subst (λ count. AreRoutes d.plan count f.routes.items) many (subst (λ xs. AreRoutes d.plan (length e.nodes.items) xs.items) (sym same_routes) k.routes);
        sent = sent (place_of d.plan h e f k n m x place moved st (client_vector h) caller P a);
        many = ap (λ xs. length xs.items) same_routes ∙ k.many ∙ sym many_sessions;
        many_sent = many_sent ∙ k.many_sent ∙ sym many_sessions;
        scans = scans now (is_node d.plan h e f k n m x place moved st (client_vector h) caller P a).journal_is k.scans;
        many_scans = many_scans ∙ k.many_scans ∙ sym many_sessions;
      } in (
        made,
        runs_more d attached_before after h e f made running stands moved.within (never (length e.homes.items) (λ c. is_of_client a.entry.event c) of.no_client)
            (only (length e.sessions.items) s (λ t. is_of_stream a.entry.event t) known of.others)
            (sym many) (ap (λ xs. length xs.items) same_homes) many_sessions
            (λ t y now. attached_put e.sessions.items s new attached_before after known running.attached_are (on.is_attached ∙ flag) others t y (subst (λ (xs : List (Option Remembered)). get_or xs t None ≡ Some y) same_sessions now)),
        gives,
      )

  -- the stream was attached
  pub attach_ends : (at : List ℕ) (a : Adds (means m) (means x) (λ _. (session.means old).standing) (client_vector h) caller (λ entry. IsAttachedAt old.stream at entry × HasGoneOn (session.means old) (session.means new) true entry))
      → f.sessions.items ≡ put e.sessions.items s new → f.routes ≡ e.routes → f.homes ≡ e.homes → f.seen ≡ e.seen → f.sent ≡ e.sent → f.scans.items ≡ set e.scans.items s fresh
      → n ≡ (d.plan.stream s).destination → MakesOne d (attached_after (Single (ToAttach s)) attached_before) h (GivesIt (ToAttach s)) f (Ok tt)
  attach_ends at a same_sessions same_routes same_homes same_seen same_sent anew placed =
      let i : IsSession d.plan h s old = session_of d.plan h e.sessions.items s old k.sessions known was in
      let is : Attached s at ≡ a.entry.event = sym (a.is.0 ∙ ap (λ (t : ℕ). Attached t at) i.stream) in
      stream_ends (GivesIt (ToAttach s) tt) (λ entry. IsAttachedAt old.stream at entry × HasGoneOn (session.means old) (session.means new) true entry) a true
      (attached_after (Single (ToAttach s)) attached_before) same_sessions same_routes same_homes same_seen
      (subst (λ (v : Event). IsOfStream s v) is (attached_is s at)) a.is.1 (λ yes. inl (subst (λ (v : Event). Attaches v s) is refl))
      (sym (ap (λ (b : Bool). b || attached_before s) (same_is s))) (λ t other. sym (ap (λ (b : Bool). b || attached_before t) (other_stream s t other)))
      (subst (λ (v : Event). IsPlaced d.plan h n v) is placed) (subst (λ (v : Event). HasCause h n v) is tt) (subst (λ (v : Event). Gives (ToAttach s) n v) is refl)
      (subst (λ (v : Event). (msg : Msg) → Sends v msg → IsMessage msg) is (λ msg bad. absurd bad))
      (ap (λ xs. length xs.items) same_sent)
      (λ at_place t d lt.
      ap (λ xs. (get_or xs.items t d).items) same_sent ∙ k.sent t d (let l : length f.sent.items ≡ length e.sent.items = ap (λ xs. length xs.items) same_sent in omega arith)
      ∙ ap (λ (v : Event). story.sent_after v t (length (journal h n)) (sent_places h t)) is)
      (ap (λ (xs : List Scanned). length xs) anew ∙ length-set e.scans.items s fresh)
      (λ i j are. scans_anew d.plan (record { node = n; entry = a.entry }) h e.scans.items f.scans.items s (λ t other to. other (sym (subst (λ (v : Event). Attaches v t) (sym is) to))) anew are)

  -- the stream's source made a turn or a checkpoint
  pub source_ends : (R : NodeEntry → Type 0) (Q : Entry → Type 0) (a : Adds (means m) (means x) (λ _. (session.means old).standing) (client_vector h) caller (λ entry. Q entry × HasGoneOn (session.means old) (session.means new) true entry))
      → f.sessions.items ≡ put e.sessions.items s new → f.routes ≡ e.routes → f.homes ≡ e.homes → f.seen ≡ e.seen
      → IsTrue old.attached → (IsAttached h s → old.stream ≡ s → Q a.entry → IsAtSource d.plan h n s a.entry.event) → (old.stream ≡ s → Q a.entry → R (record { node = n; entry = a.entry }))
      → (roomy : List (Kept ℕ)) → length roomy ≡ length e.sent.items → ((t : ℕ) (d : Kept ℕ) → (get_or roomy t d).items ≡ (get_or e.sent.items t d).items)
      → (old.stream ≡ s → Q a.entry → HasNoted roomy f.sent.items s (story.sent_after a.entry.event s place))
      → length f.scans.items ≡ length e.scans.items
      → (IsSession d.plan (record { node = n; entry = a.entry } ∷ h) s new → (means x).journal ≡ journal (record { node = n; entry = a.entry } ∷ h) n
      → AreScans d.plan (record { node = n; entry = a.entry } ∷ h) e.scans.items → AreScans d.plan (record { node = n; entry = a.entry } ∷ h) f.scans.items)
      → Grown attached_before R
  source_ends R Q a same_sessions same_routes same_homes same_seen attached what gives roomy many room noted many_scans scans =
      let i : IsSession d.plan h s old = session_of d.plan h e.sessions.items s old k.sessions known was in
      let w : IsAtSource d.plan h n s a.entry.event = what (i.attached attached) i.stream a.is.0 in
      let made : HasNoted roomy f.sent.items s (story.sent_after a.entry.event s place) = noted i.stream a.is.0 in
      let flag : old.attached ≡ attached_before s = running.attached_are s old was in
      stream_ends R (λ entry. Q entry × HasGoneOn (session.means old) (session.means new) true entry) a true attached_before same_sessions same_routes same_homes same_seen
      w.of a.is.1 (λ yes. inr (i.attached attached)) (sym attached ∙ flag) (λ t other. refl) w.placed w.cause (gives i.stream a.is.0) w.sends
      (made.many ∙ many)
      (λ at_place. index_more (record { node = n; entry = a.entry }) h roomy f.sent.items s place (index_roomy h e.sent.items roomy many room k.sent)
      (let l : length e.sent.items ≡ length e.sessions.items = k.many_sent in omega arith) w.of.others at_place made)
      many_scans (λ i j are. scans i j (scans_more d.plan (record { node = n; entry = a.entry }) h e.scans.items w.stays are))

-- the ends of a stream
pub ends_of : (plan : Plan) (count : ℕ) (routes : List Route) (s : ℕ) (r : Route) → AreRoutes plan count routes → s < length routes → ((d : Route) → r ≡ get_or routes s d)
    → (r.source ≡ (plan.stream s).source) × (r.destination ≡ (plan.stream s).destination) × (r.source < count) × (r.destination < count)
ends_of plan count routes s r are lt is = (
  ap (λ (y : Route). y.source) (is r) ∙ are.source s r lt,
  ap (λ (y : Route). y.destination) (is r) ∙ are.destination s r lt,
  subst (λ (y : Route). y.source < count) (sym (is r)) (are.from s r lt),
  subst (λ (y : Route). y.destination < count) (sym (is r)) (are.to s r lt),
)

-- ---- a stream that is not attached any more

detached : (plan : Plan) (h : List NodeEntry) (s : ℕ) (old new : Remembered) → HasDetached (session.means old) (session.means new) → IsSession plan h s old → IsSession plan h s new
detached plan h s old new by i = record {
  stream = by.stream ∙ i.stream;
  stands = subst (λ (st : Standing). StandsFor plan h s st) (sym by.standing) i.stands;
  attached = λ on. let off : new.attached ≡ false = by.attached in absurd (cc);
}

sessions_put : (plan : Plan) (h : List NodeEntry) (sessions : List (Option Remembered)) (s : ℕ) (new : Remembered) → AreSessions plan h sessions → s < length sessions → IsSession plan h s new → AreSessions plan h (put sessions s new)
sessions_put plan h sessions s new are known now t lt = by (let l = length_put sessions s new in omega arith) (cases_eq t s)
  where
    by : t < length sessions → (t ≡ s) ⊎ (t ≡ s → ⊥) → (x : Remembered) × (get_or (put sessions s new) t None ≡ Some x) × IsSession plan h t x
    by within (inl same) = subst (λ (j : ℕ). (x : Remembered) × (get_or (put sessions s new) j None ≡ Some x) × IsSession plan h j x) (sym same) (new, here sessions s new known, now)
    by within (inr other) = let x = are t within in (x.0, there sessions s t new other ∙ x.1, x.2)

pub detach_ends : (d : Declared) (attached : ℕ → Bool) (h : List NodeEntry) (e f : Engine) (s : ℕ) (old new : Remembered) → IsRunning d attached h e → s < length e.sessions.items → get_or e.sessions.items s None ≡ Some old
    → f.sessions.items ≡ put e.sessions.items s new → HasDetached (session.means old) (session.means new)
    → f.nodes ≡ e.nodes → f.history ≡ e.history → f.homes ≡ e.homes → f.seen ≡ e.seen → f.routes ≡ e.routes → f.sent ≡ e.sent → f.scans ≡ e.scans
    → IsRunning d (attached_after (Detach s) attached) h f
detach_ends d attached h e f s old new running known was now by same_nodes same_history same_homes same_seen same_routes same_sent same_scans =
    let k : Stands d.plan h e = running.stands in
    let i : IsSession d.plan h s new = detached d.plan h s old new by (session_of d.plan h e.sessions.items s old k.sessions known was) in
    let many : length f.sessions.items ≡ length e.sessions.items = ap (λ (xs : List (Option Remembered)). length xs) now ∙ length_put e.sessions.items s new in
    record {
      stands = record {
        valid = k.valid;
        grammar = k.grammar;
        places_are = ap (λ xs. xs.items) same_history ∙ k.places_are;
        nodes = subst (λ xs. AreNodes d.plan h xs.items) (sym same_nodes) k.nodes;
        sessions = subst (λ (xs : List (Option Remembered)). AreSessions d.plan h xs) (sym now) (sessions_put d.plan h e.sessions.items s new k.sessions known i);
        clients = subst (λ xs. AreClients d.plan h (length xs.items) f.homes.items f.seen.items) (sym same_nodes)
            (subst (λ xs. AreClients d.plan h (length e.nodes.items) xs.items f.seen.items) (sym same_homes)
            (subst (λ xs. AreClients d.plan h (length e.nodes.items) e.homes.items xs.items) (sym same_seen) k.clients));
        routes = subst (λ xs. AreRoutes d.plan (length xs.items) f.routes.items) (sym same_nodes) (subst (λ xs. AreRoutes d.plan (length e.nodes.items) xs.items) (sym same_routes) k.routes);
        sent = subst (λ xs. AreSent h xs.items) (sym same_sent) k.sent;
        many = ap (λ xs. length xs.items) same_routes ∙ k.many ∙ sym many;
        many_sent = ap (λ xs. length xs.items) same_sent ∙ k.many_sent ∙ sym many;
        scans = subst (λ xs. AreScans d.plan h xs.items) (sym same_scans) k.scans;
        many_scans = ap (λ xs. length xs.items) same_scans ∙ k.many_scans ∙ sym many;
      };
      speaks = running.speaks;
      nodes = ap (λ xs. length xs.items) same_nodes ∙ running.nodes;
      clients = ap (λ xs. length xs.items) same_homes ∙ running.clients;
      streams = many ∙ running.streams;
      attached_are = λ t x is. attached_put e.sessions.items s new attached (attached_after (Detach s) attached) known running.attached_are
          (by.attached ∙ sym (ap (λ (b : Bool). not b && attached s) (same_is s))) (λ t other. sym (ap (λ (b : Bool). not b && attached t) (other_stream s t other))) t x
          (subst (λ (xs : List (Option Remembered)). get_or xs t None ≡ Some x) now is);
    }

-- a session's time is at most the number of entries
pub session_short : (d : Declared) (attached : ℕ → Bool) (h : List NodeEntry) (e : Engine) (s : ℕ) (x : Remembered) → IsRunning d attached h e → s < length e.sessions.items → get_or e.sessions.items s None ≡ Some x → (session.means x).standing.time ≤ length h
session_short d attached h e s x k known was =
    let i : IsSession d.plan h s x = session_of d.plan h e.sessions.items s x k.stands.sessions known was in
    let t : (session.means x).standing.time ≡ stream_time h s = i.stands.time in
    let l : stream_time h s ≤ length h = (valid_short d.plan h k.stands.valid).streams s in
    omega arith
