-- What an event that is of no stream, or of no client, leaves.
use Rattle.std.proofs.Common.{◌≡◌, ℕ, ◌+◌, List, [], ◌∷◌, ◌++◌, inr, refl, sym, ◌∙◌, ap, max, cond, length, arith}
use Rattle.std.specs.Prelude.{true, false, Bool, IsTrue, Option, ◌||◌, ◌&&◌}
use Rattle.std.proofs.lemmas.Bool.Decides.{Decides-eqb}
use Rattle.pr_stamps.specs.Kept.{Kept}
use Rattle.pr_stamps.specs.Point.{Point}
use Rattle.pr_vectors.specs.Vector.{join_of, raised}
use Rattle.pr_inval.specs.declared.msg.Msg.{Msg}
use Rattle.pr_inval.specs.Points.{to_of}
use Rattle.pr_inval.specs.Standing.{Remembered}
use Rattle.pr_story.specs.declared.event.Event.{Event}
use Rattle.pr_story.specs.declared.event.Event.TheVariants.{Wrote, Attached, Sent, Idle, Stale, Missing, Down, Answered, Behind, Moved}
use Rattle.pr_story.specs.History.{Plan, NodeEntry, journal, Sends}
use Rattle.pr_story.specs.Clients.{is_of_client, is_with_needs, node_after, seen_after, client_node, client_vector}
use Rattle.pr_story.specs.Turns.{is_of_stream, is_with_session, is_timed, is_body, count_after, position_after, position, sent_after, sent_count, has_sent, stream_time}
use Rattle.pr_inval.specs.Messages.{IsMessage}
use Rattle.pr_story.specs.Places as story
use Rattle.pr_story.specs.Places.{sent_places}
use Rattle.pr_merge.specs.Holding.{AreSessions, IsSession}
use Rattle.pr_sim.specs.Running.{AreClients, AreSent}
use Rattle.pr_story.proofs.OfStreams.{IsOfNoClient, IsOfNoStream}

-- ---- streams

position_stays : (event : Event) (s : ℕ) (p : List ℕ) → is_of_stream event s ≡ false → position_after event s p ≡ p
position_stays (Attached stream at) s p off = ap (λ (b : Bool). cond b at p) off
position_stays (Sent msg) s p off = ap (λ (b : Bool). cond b (join_of p (to_of msg.kind)) p) off
position_stays _ s p off = refl

count_stays : (event : Event) (s k : ℕ) → is_of_stream event s ≡ false → count_after event s k ≡ k
count_stays (Sent msg) s k off = ap (λ (b : Bool). cond b (k + 1) k) off
count_stays _ s k off = refl

sent_stays : (event : Event) (s : ℕ) (o : List ℕ) (t : Point) (b : Bool) → is_of_stream event s ≡ false → sent_after event s o t b ≡ b
sent_stays (Attached stream at) s o t b off = ap (λ (x : Bool). cond x false b) off
sent_stays (Sent msg) s o t b off = ap (λ (x : Bool). (x && is_body msg.kind o t) || b) off
sent_stays _ s o t b off = refl

timed_off : (event : Event) (s : ℕ) → is_of_stream event s ≡ false → is_timed event s ≡ false
timed_off (Missing stream number) s off = refl
timed_off _ s off = off

time_stays : (event : Event) (s time t : ℕ) → is_of_stream event s ≡ false → max t (cond (is_timed event s) time 0) ≡ t
time_stays event s time t off = let e : cond (is_timed event s) time 0 ≡ 0 = ap (λ (b : Bool). cond b time 0) (timed_off event s off) in omega arith

pub places_stay : (event : Event) (s at : ℕ) (before : List ℕ) → is_of_stream event s ≡ false → story.sent_after event s at before ≡ before
places_stay (Sent msg) s at before off = ap (λ (b : Bool). cond b (before ++ at ∷ []) before) off
places_stay _ s at before off = refl

-- a stream that the event is not of stands as before
pub stands_still : (plan : Plan) (e : NodeEntry) (h : List NodeEntry) (s : ℕ) (x : Remembered) → is_of_stream e.entry.event s ≡ false → IsSession plan h s x → IsSession plan (e ∷ h) s x
stands_still plan e h s x off i = record {
  stream = i.stream;
  stands = record {
    names = i.stands.names;
    bodies = i.stands.bodies;
    position = i.stands.position ∙ sym (position_stays e.entry.event s (position h s) off);
    number = i.stands.number ∙ sym (count_stays e.entry.event s (sent_count h s) off);
    time = i.stands.time ∙ sym (time_stays e.entry.event s e.entry.time (stream_time h s) off);
    sent = λ o t. i.stands.sent o t ∙ sym (sent_stays e.entry.event s o t (has_sent h s o t) off);
  };
  attached = λ is. inr (i.attached is);
}

pub sessions_stay : (plan : Plan) (e : NodeEntry) (h : List NodeEntry) (xs : List (Option Remembered)) → IsOfNoStream e.entry.event → AreSessions plan h xs → AreSessions plan (e ∷ h) xs
sessions_stay plan e h xs off each s lt =
    let x = each s lt in
    (x.0, x.1, stands_still plan e h s x.0 (off s) x.2)

pub index_stays : (e : NodeEntry) (h : List NodeEntry) (sent : List (Kept ℕ)) → IsOfNoStream e.entry.event → AreSent h sent → AreSent (e ∷ h) sent
index_stays e h sent off each s d lt = each s d lt ∙ sym (places_stay e.entry.event s (length (journal h e.node)) (sent_places h s) (off s))

-- ---- messages

sends_its_stream : (event : Event) (msg : Msg) → Sends event msg → is_of_stream event msg.stream ≡ true
sends_its_stream (Sent m) msg is = (Decides-eqb m.stream msg.stream).1 (ap (λ (x : Msg). x.stream) is)
sends_its_stream _ msg is = absurd is

pub nothing_sent : (event : Event) → IsOfNoStream event → (msg : Msg) → Sends event msg → IsMessage msg
nothing_sent event off msg sends =
    let on : is_of_stream event msg.stream ≡ true = sends_its_stream event msg sends in
    let not : is_of_stream event msg.stream ≡ false = off msg.stream in
    absurd (cc)

-- ---- clients

node_stays : (event : Event) (n c m : ℕ) → is_of_client event c ≡ false → node_after event n c m ≡ m
node_stays (Moved client) n c m off = ap (λ (b : Bool). cond b n m) off
node_stays _ n c m off = refl

seen_stays : (event : Event) (c : ℕ) (v : List ℕ) → is_of_client event c ≡ false → seen_after event c v ≡ v
seen_stays (Wrote client write body after) c v off = ap (λ (b : Bool). cond b (join_of v (raised after write.stamp)) v) off
seen_stays (Answered client o answer at) c v off = ap (λ (b : Bool). cond b (join_of v at) v) off
seen_stays _ c v off = refl

pub client_stays : (plan : Plan) (e : NodeEntry) (h : List NodeEntry) (c : ℕ) → is_of_client e.entry.event c ≡ false
    → (client_node plan (e ∷ h) c ≡ client_node plan h c) × (client_vector (e ∷ h) c ≡ client_vector h c)
client_stays plan e h c off = (node_stays e.entry.event e.node c (client_node plan h c) off, seen_stays e.entry.event c (client_vector h c) off)

pub clients_stay : (plan : Plan) (e : NodeEntry) (h : List NodeEntry) (count : ℕ) (homes : List ℕ) (seen : List (List ℕ)) → IsOfNoClient e.entry.event → AreClients plan h count homes seen → AreClients plan (e ∷ h) count homes seen
clients_stay plan e h count homes seen off k = record {
  many = k.many;
  home = λ c lt. k.home c lt ∙ sym (client_stays plan e h c (off c)).0;
  at = k.at;
  seen_is = λ c lt. k.seen_is c lt ∙ sym (client_stays plan e h c (off c)).1;
}

-- ---- what a call is given

with_session : (event : Event) (s : ℕ) → IsTrue (is_with_session event s) → is_of_stream event s ≡ true
with_session (Attached stream at) s is = is
with_session (Sent msg) s is = is
with_session (Idle stream) s is = is
with_session (Stale stream cut) s is = is
with_session (Down stream cause) s is = is
with_session _ s is = absurd (cc)

pub no_session : (event : Event) (s : ℕ) → is_of_stream event s ≡ false → IsTrue (is_with_session event s) → ⊥
no_session event s off is = let on : is_of_stream event s ≡ true = with_session event s is in cc

with_needs : (event : Event) (c : ℕ) → IsTrue (is_with_needs event c) → is_of_client event c ≡ true
with_needs (Wrote client write body after) c is = is
with_needs (Answered client o answer at) c is = is
with_needs (Behind client needs has) c is = is
with_needs _ c is = absurd (cc)

pub no_needs : (event : Event) (c : ℕ) → is_of_client event c ≡ false → IsTrue (is_with_needs event c) → ⊥
no_needs event c off is = let on : is_of_client event c ≡ true = with_needs event c is in cc
