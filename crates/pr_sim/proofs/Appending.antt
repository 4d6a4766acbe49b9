-- Entries that nodes made meanwhile come into the history one by one.
use Rattle.std.proofs.Common.{◌≡◌, ◌⊎◌, inl, inr, ℕ, zero, suc, ◌+◌, ◌-◌, ◌<◌, ◌≤◌, List, [], ◌∷◌, ◌++◌, refl, sym, ◌∙◌, ap, subst, length, get_or, set, take, reverse, cond, arith}
use Rattle.std.specs.Prelude.{Some, None, Option, Bool, false}
use Rattle.std.proofs.lemmas.List.{append-nil, append_assoc, append_cancel_left, get_or-append-add, get_or_default, length-append, length-reverse, reverse-append, reverse-reverse, take_all}
use Rattle.std.proofs.lemmas.Bool.{cases_eq}
use Rattle.pr_merge.specs.Holding.{AddsPlaces, HeldState}
use Rattle.pr_node.specs.Stored.{Stored, means}
use Rattle.pr_story.specs.declared.entry.Entry.{Entry}
use Rattle.pr_story.specs.Counts.{AreDeclared, Counts, Declared, IsDeclared}
use Rattle.pr_inval.specs.declared.write_rec.WriteRec.{WriteRec}
use Rattle.pr_stamps.specs.Kept.{Kept}
use Rattle.pr_vectors.specs.Vector.{join_of, raised, zero_vector}
use Rattle.pr_story.specs.declared.event.Event.{Event}
use Rattle.pr_story.specs.declared.event.Event.TheVariants.{Wrote, Attached, Sent, Idle, Stale, Accepted, Gapped, Missing, Down, Answered, Behind, Moved, Cut, Dropped, Conflicts, State}
use Rattle.pr_story.specs.declared.reply.Reply.{Reply}
use Rattle.pr_story.specs.Clients.{client_vector, is_of_client, node_after, seen_after}
use Rattle.pr_story.specs.History.{NodeEntry, Plan, journal}
use Rattle.pr_story.specs.Places.{places_of}
use Rattle.pr_sim.specs.Holding.{HasRoomFor, IsAttachedOfStream, IsNext, IsSentOfStream, KeepsRecords, NamesClient, journal_of}
use Rattle.pr_sim.specs.Places.{HasNoted}
use Rattle.pr_sim.specs.Running.{AreClients, AreRoutes, AreScans, AreSent}
use Rattle.pr_story.proofs.OfStreams.{not_equal, same_is}
use Rattle.pr_sim.proofs.OfClients.{client_saw}
use Rattle.pr_sim.specs.declared.engine.Engine.{Engine}
use Rattle.pr_sim.proofs.Step.{some_is}
use Rattle.pr_sim.proofs.Telling.{StandsAt, many_places, reverse_more, some_entry, stands_at}
use Rattle.pr_story.proofs.NewestFirst.{reverse-take_more}

-- ---- where they stand

-- the places of entries that come after the history, the oldest first
abbrev pub placed : List NodeEntry → List NodeEntry → List (ℕ × ℕ)
placed h [] = []
placed h (e ∷ es) = (e.node, length (journal h e.node)) ∷ placed (e ∷ h) es

onto : (e : NodeEntry) (es h : List NodeEntry) → reverse (e ∷ es) ++ h ≡ reverse es ++ e ∷ h
onto e es h = ap (λ (xs : List NodeEntry). xs ++ h) (reverse_more e es) ∙ append_assoc (reverse es) (e ∷ []) h

places_after : (es h : List NodeEntry) → places_of (reverse es ++ h) ≡ places_of h ++ placed h es
places_after [] h = sym (append-nil (places_of h))
places_after (e ∷ es) h =
    ap (λ (xs : List NodeEntry). places_of xs) (onto e es h) ∙ places_after es (e ∷ h)
    ∙ append_assoc (places_of h) ((e.node, length (journal h e.node)) ∷ []) (placed (e ∷ h) es)

placed_at : (es h : List NodeEntry) (i : ℕ) (x : NodeEntry) (p : ℕ × ℕ) → i < length es
    → get_or (placed h es) i p ≡ ((get_or es i x).node, length (journal (reverse (take i es) ++ h) (get_or es i x).node))
placed_at [] h i x p lt = absurd (omega arith)
placed_at (e ∷ es) h zero x p lt = refl
placed_at (e ∷ es) h (suc i) x p lt =
    placed_at es (e ∷ h) i x p (omega arith)
    ∙ ap (λ (g : List NodeEntry). ((get_or es i x).node, length (journal g (get_or es i x).node))) (sym (onto e (take i es) h))

-- ---- what is declared

-- of each entry of a list that is declared with all behind it
speaks_at : (k : Counts) (es h : List NodeEntry) (i : ℕ) (x : NodeEntry) → AreDeclared k (reverse es ++ h) → i < length es
    → ((get_or es i x).node < k.nodes) × IsDeclared k (get_or es i x).entry.event
speaks_at k [] h i x are lt = absurd (omega arith)
speaks_at k (e ∷ es) h zero x are lt = (behind (reverse es) (subst (λ (xs : List NodeEntry). AreDeclared k xs) (onto e es h) are)).0
  where
    behind : (xs : List NodeEntry) → AreDeclared k (xs ++ e ∷ h) → AreDeclared k (e ∷ h)
    behind [] are = are
    behind (y ∷ ys) are = behind ys are.1
speaks_at k (e ∷ es) h (suc i) x are lt = speaks_at k es (e ∷ h) i x (subst (λ (xs : List NodeEntry). AreDeclared k xs) (onto e es h) are) (omega arith)

-- ---- the entries of places

module _ (d : Declared) (h new : List NodeEntry) (s : HeldState Stored) (places : List (ℕ × ℕ)) (a : AddsPlaces (λ (m : Stored). (means m).journal) d h new s places) where
  abbrev pub es : List NodeEntry
  es = reverse new

  whole : reverse es ++ h ≡ new ++ h
  whole = ap (λ (xs : List NodeEntry). xs ++ h) (reverse-reverse new)

  placed_are : places ≡ placed h es
  placed_are =
      append_cancel_left (places_of h) places (placed h es)
      (ap (λ (ps : List (ℕ × ℕ)). ps ++ places) (sym a.before) ∙ a.after ∙ ap (λ (xs : List NodeEntry). places_of xs) (sym whole) ∙ places_after es h)

  many_placed : (xs g : List NodeEntry) → length (placed g xs) ≡ length xs
  many_placed [] g = refl
  many_placed (x ∷ xs) g = ap (λ (n : ℕ). suc n) (many_placed xs (x ∷ g))

  pub many_new : length places ≡ length es
  many_new = ap (λ (ps : List (ℕ × ℕ)). length ps) placed_are ∙ many_placed es h

  module _ (i : ℕ) (x : NodeEntry) (p : ℕ × ℕ) (lt : i < length places) where
    within : i < length es
    within = let m : length places ≡ length es = many_new in omega arith

    abbrev this : NodeEntry
    this = get_or es i x

    at_place : get_or places i p ≡ (this.node, length (journal (reverse (take i es) ++ h) this.node))
    at_place = ap (λ (ps : List (ℕ × ℕ)). get_or ps i p) placed_are ∙ placed_at es h i x p within

    stands : StandsAt (new ++ h) this (get_or places i p)
    stands =
        let many : length (places_of h) ≡ length h = many_places h in
        let old : length (reverse h) ≡ length h = length-reverse h in
        let is_this : get_or (reverse (new ++ h)) (length h + i) x ≡ this =
        ap (λ (xs : List NodeEntry). get_or xs (length h + i) x) (reverse-append new h)
        ∙ ap (λ (n : ℕ). get_or (reverse h ++ es) (n + i) x) (sym old) ∙ get_or-append-add (reverse h) es i x in
        let is_place : get_or (places_of (new ++ h)) (length h + i) p ≡ get_or places i p =
        ap (λ (ps : List (ℕ × ℕ)). get_or ps (length h + i) p) (sym a.after ∙ ap (λ (ps : List (ℕ × ℕ)). ps ++ places) a.before)
        ∙ ap (λ (n : ℕ). get_or (places_of h ++ places) (n + i) p) (sym many) ∙ get_or-append-add (places_of h) places i p in
        let news : length (reverse new) ≡ length new = length-reverse new in
        let all : length (new ++ h) ≡ length new + length h = length-append new h in
        let w : i < length es = within in
        subst (λ (y : NodeEntry). StandsAt (new ++ h) y (get_or places i p)) is_this
        (subst (λ (q : ℕ × ℕ). StandsAt (new ++ h) (get_or (reverse (new ++ h)) (length h + i) x) q) is_place (stands_at (new ++ h) (length h + i) x p (omega arith)))

    declared : (this.node < d.counts.nodes) × IsDeclared d.counts this.entry.event
    declared = speaks_at d.counts es h i x (subst (λ (xs : List NodeEntry). AreDeclared d.counts xs) (sym whole) a.speaks) within

    -- the entry of the place comes next after those before it
    pub comes_next : (e : Engine) → e.nodes.items ≡ s.nodes → e.sessions.items ≡ s.sessions → length e.homes.items ≡ s.clients
        → IsNext d (reverse (take i es) ++ h) this e (get_or places i p)
    comes_next e nodes sessions clients =
        let known : this.node < length s.nodes = (let k = declared.0 in let c = a.nodes in omega arith) in
        let m = a.here this.node known in
        let same : (get_or places i p).0 ≡ this.node = stands.node in
        let j : (means m.0).journal ≡ journal (new ++ h) this.node = a.journals this.node m.0 m.1 in
        record {
          node = same;
          at = ap (λ (q : ℕ × ℕ). q.1) at_place;
          here = (
            m.0,
            ap (λ (xs : List (Option Stored)). get_or xs (get_or places i p).0 None) nodes ∙ ap (λ (n : ℕ). get_or s.nodes n None) same ∙ m.1,
            subst (λ (xs : List Entry). (get_or places i p).1 < length xs) (sym j) stands.within,
            λ any. ap (λ (xs : List Entry). get_or (reverse xs) (get_or places i p).1 any) j ∙ stands.entry any,
          );
          declared = declared.1;
          within = subst (λ (xs : List (Option Stored)). this.node < length xs) (sym nodes) known;
          clients = clients ∙ a.clients;
          streams = ap (λ xs. length xs) sessions ∙ a.streams;
        }

-- ---- what one entry changes

module _ (plan : Plan) (h : List NodeEntry) (count node : ℕ) (entry : Entry) (homes : List ℕ) (seen now : List (List ℕ)) where
  abbrev made : NodeEntry
  made = record { node = node; entry = entry }

  saw : (client : ℕ) (v : Event) → entry.event ≡ v → ((c m : ℕ) → node_after v node c m ≡ m) → ((c : ℕ) → (c ≡ client → ⊥) → is_of_client v c ≡ false) → client < length homes
      → (at : List ℕ) → ((d : List ℕ) → now ≡ set seen client (join_of (get_or seen client d) at)) → seen_after v client (client_vector h client) ≡ join_of (client_vector h client) at
      → AreClients plan h count homes seen → AreClients plan (made ∷ h) count homes now
  saw client v is stays others known at changed means k =
      let sees : get_or seen client zero_vector ≡ client_vector h client = k.seen_is client known in
      let then : client_vector (made ∷ h) client ≡ join_of (client_vector h client) at = ap (λ (x : Event). seen_after x client (client_vector h client)) is ∙ means in
      subst (λ (xs : List (List ℕ)). AreClients plan (made ∷ h) count homes xs) (sym (changed zero_vector))
      (client_saw plan made h count homes seen client (join_of (get_or seen client zero_vector) at) k known
      (λ c m. ap (λ (x : Event). node_after x node c m) is ∙ stays c m)
      (λ c other. ap (λ (x : Event). is_of_client x c) is ∙ others c other)
      (ap (λ (x : List ℕ). join_of x at) sees ∙ sym then))

  pub client_wrote : (client : ℕ) (write : WriteRec) (body : List ℕ) (after : List ℕ) → entry.event ≡ Wrote client write body after → NamesClient (length homes) entry.event
      → (at : List ℕ) → at ≡ raised after write.stamp → ((d : List ℕ) → now ≡ set seen client (join_of (get_or seen client d) at))
      → AreClients plan h count homes seen → AreClients plan (made ∷ h) count homes now
  client_wrote client write body after is known at at_is changed k =
      saw client (Wrote client write body after) is (λ c m. refl) (λ c other. not_equal client c (λ e. other (sym e)))
      (subst (λ (x : Event). NamesClient (length homes) x) is known) at changed
      (ap (λ (b : Bool). cond b (join_of (client_vector h client) (raised after write.stamp)) (client_vector h client)) (same_is client)
      ∙ ap (λ (x : List ℕ). join_of (client_vector h client) x) (sym at_is)) k

  pub client_answered : (client : ℕ) (name : List ℕ) (reply : Reply) (at : List ℕ) → entry.event ≡ Answered client name reply at → NamesClient (length homes) entry.event
      → ((d : List ℕ) → now ≡ set seen client (join_of (get_or seen client d) at)) → AreClients plan h count homes seen → AreClients plan (made ∷ h) count homes now
  client_answered client name reply at is known changed k =
      saw client (Answered client name reply at) is (λ c m. refl) (λ c other. not_equal client c (λ e. other (sym e)))
      (subst (λ (x : Event). NamesClient (length homes) x) is known) at changed
      (ap (λ (b : Bool). cond b (join_of (client_vector h client) at) (client_vector h client)) (same_is client)) k

-- one place less is kept for each stream at most
pub room_then : (before now : List (Kept ℕ)) (stream : ℕ) (change : List ℕ → List ℕ) → HasNoted before now stream change → (s : ℕ) (d : Kept ℕ) → (get_or before s d).room ≤ (get_or now s d).room + 1
room_then before now stream change noted s d = by (cases_eq s stream)
  where
    by : (s ≡ stream) ⊎ (s ≡ stream → ⊥) → (get_or before s d).room ≤ (get_or now s d).room + 1
    by (inl same) = subst (λ (i : ℕ). (get_or before i d).room ≤ (get_or now i d).room + 1) (sym same) (noted.room d)
    by (inr other) = let e : (get_or now s d).room ≡ (get_or before s d).room = ap (λ (x : Kept ℕ). x.room) (noted.there s d other) in omega arith

-- ---- the whole of it

-- the event is of a client and a stream that are there
pub names_client : (k : Counts) (n : ℕ) (v : Event) → n ≡ k.clients → IsDeclared k v → NamesClient n v
names_client k n (Wrote client write body after) is named = subst (λ (m : ℕ). client < m) (sym is) named
names_client k n (Answered client name reply at) is named = subst (λ (m : ℕ). client < m) (sym is) named
names_client k n (Moved client) is named = subst (λ (m : ℕ). client < m) (sym is) named
names_client k n (Attached s at) is named = tt
names_client k n (Sent m) is named = tt
names_client k n (Idle s) is named = tt
names_client k n (Stale s cut) is named = tt
names_client k n (Accepted m at) is named = tt
names_client k n (Gapped m has) is named = tt
names_client k n (Missing s number) is named = tt
names_client k n (Down s cause) is named = tt
names_client k n (Behind client needs has) is named = tt
names_client k n (Cut at) is named = tt
names_client k n (Dropped name) is named = tt
names_client k n (Conflicts name found) is named = tt
names_client k n (State at cut floor precise) is named = tt

pub sends_of_stream : (k : Counts) (n : ℕ) (v : Event) → n ≡ k.streams → IsDeclared k v → IsSentOfStream n v
sends_of_stream k n (Sent m) is named = subst (λ (i : ℕ). m.stream < i) (sym is) named
sends_of_stream k n (Wrote client write body after) is named = tt
sends_of_stream k n (Answered client name reply at) is named = tt
sends_of_stream k n (Moved client) is named = tt
sends_of_stream k n (Attached s at) is named = tt
sends_of_stream k n (Idle s) is named = tt
sends_of_stream k n (Stale s cut) is named = tt
sends_of_stream k n (Accepted m at) is named = tt
sends_of_stream k n (Gapped m has) is named = tt
sends_of_stream k n (Missing s number) is named = tt
sends_of_stream k n (Down s cause) is named = tt
sends_of_stream k n (Behind client needs has) is named = tt
sends_of_stream k n (Cut at) is named = tt
sends_of_stream k n (Dropped name) is named = tt
sends_of_stream k n (Conflicts name found) is named = tt
sends_of_stream k n (State at cut floor precise) is named = tt

pub attaches_stream : (k : Counts) (n : ℕ) (v : Event) → n ≡ k.streams → IsDeclared k v → IsAttachedOfStream n v
attaches_stream k n (Attached s at) is named = subst (λ (i : ℕ). s < i) (sym is) named
attaches_stream k n _ is named = tt

-- ---- one entry of a node

-- the entry that stands at the place is the next one
pub next_entry : (d : Declared) (h : List NodeEntry) (x : NodeEntry) (e : Engine) (node place : ℕ) → IsNext d h x e (node, place) → (m : Stored) (entry : Entry)
    → get_or e.nodes.items node None ≡ Some m → ((any : Entry) → entry ≡ get_or (reverse (means m).journal) place any) → entry ≡ x.entry
next_entry d h x e node place next m entry there is =
    let same : next.here.0 ≡ m = some_is next.here.0 m (get_or e.nodes.items node None) next.here.1 there in
    is x.entry ∙ ap (λ (y : Stored). get_or (reverse (means y).journal) place x.entry) (sym same) ∙ next.here.3 x.entry

-- what the engine keeps then
pub kept_then : (d : Declared) (h : List NodeEntry) (x : NodeEntry) (e f : Engine) (node place : ℕ) (entry : Entry) → IsNext d h x e (node, place) → entry ≡ x.entry → KeepsRecords d h e
    → f.nodes ≡ e.nodes → f.sessions ≡ e.sessions → f.routes ≡ e.routes
    → (node < length e.nodes.items → AreClients d.plan (record { node = node; entry = entry } ∷ h) (length e.nodes.items) f.homes.items f.seen.items)
    → (place ≡ length (journal h node) → AreSent (record { node = node; entry = entry } ∷ h) f.sent.items)
    → length f.sent.items ≡ length e.sent.items
    → AreScans d.plan (record { node = node; entry = entry } ∷ h) f.scans.items → length f.scans.items ≡ length e.scans.items → KeepsRecords d (x ∷ h) f
kept_then d h x e f node place entry next is k nodes sessions routes clients sent many scans many_scans =
    let of : x.node ≡ node = sym next.node in
    let same : record { node = node; entry = entry } ≡ x = ap (λ (n : ℕ). record { node = n; entry = entry }) (sym of) ∙ ap (λ (y : Entry). record { node = x.node; entry = y }) is in
    let streams : length e.sessions.items ≡ length f.sessions.items = ap (λ xs. length xs.items) (sym sessions) in
    subst (λ (y : NodeEntry). KeepsRecords d (y ∷ h) f) same
    (record {
      clients = subst (λ xs. AreClients d.plan (record { node = node; entry = entry } ∷ h) (length xs.items) f.homes.items f.seen.items) (sym nodes) (clients (subst (λ (n : ℕ). n < length e.nodes.items) of next.within));
      routes = subst (λ xs. AreRoutes d.plan (length xs.items) f.routes.items) (sym nodes) (subst (λ xs. AreRoutes d.plan (length e.nodes.items) xs.items) (sym routes) k.routes);
      sent = sent (next.at ∙ ap (λ (n : ℕ). length (journal h n)) of);
      many = ap (λ xs. length xs.items) routes ∙ k.many ∙ streams;
      many_sent = many ∙ k.many_sent ∙ streams;
      scans = scans;
      many_scans = many_scans ∙ k.many_scans ∙ streams;
    })

-- ---- place after place

-- the nodes, sessions and clients are those of before
abbrev pub IsSame : Engine → HeldState Stored → Type 0
IsSame e s = (e.nodes.items ≡ s.nodes) × (e.sessions.items ≡ s.sessions) × (length e.homes.items ≡ s.clients)

module _ (d : Declared) (h new : List NodeEntry) (s : HeldState Stored) (places : List (ℕ × ℕ)) (a : AddsPlaces journal_of d h new s places) (i : ℕ) (p : ℕ × ℕ) (lt : i < length places) (is : p ≡ get_or places i p) where
  abbrev pub so_far : List NodeEntry
  so_far = reverse (take i (reverse new)) ++ h

  abbrev pub that : NodeEntry
  that = get_or (reverse new) i some_entry

  next_there : (e : Engine) → IsSame e s → IsNext d so_far that e p
  next_there e same =
      subst (λ (q : ℕ × ℕ). IsNext d so_far that e q) (sym is) (comes_next d h new s places a i some_entry p lt e same.0 same.1 same.2)

  pub came_next : (e : Engine) → IsSame e s → KeepsRecords d so_far e → (x : Declared) × (g : List NodeEntry) × (y : NodeEntry) × IsNext x g y e p × KeepsRecords x g e
  came_next e same k = (d, so_far, that, next_there e same, k)

  pub came_one_more : (e f : Engine) → IsSame e s → KeepsRecords d so_far e
      → ((x : Declared) (g : List NodeEntry) (y : NodeEntry) → IsNext x g y e p → KeepsRecords x g e → KeepsRecords x (y ∷ g) f)
      → KeepsRecords d (reverse (take (i + 1) (reverse new)) ++ h) f
  came_one_more e f same k then =
      let few : i < length (reverse new) = (let m = many_new d h new s places a in omega arith) in
      subst (λ (es : List NodeEntry). KeepsRecords d (es ++ h) f)
      (sym (reverse-take_more (reverse new) i that few (get_or_default (reverse new) i some_entry that few)))
      (then d so_far that (next_there e same) k)

pub room_for_one : (e : Engine) (many i : ℕ) → i < many → HasRoomFor e (many - i) → HasRoomFor e 1
room_for_one e many i lt room = record {
  places = let r = room.places in omega arith;
  sent = λ s d known. let r = room.sent s d known in omega arith;
}

pub room_left : (e f : Engine) (many i : ℕ) → i < many → HasRoomFor e (many - i) → ((n : ℕ) → HasRoomFor e (n + 1) → HasRoomFor f n) → HasRoomFor f (many - (i + 1))
room_left e f many i lt room less =
    let left : many - i ≡ many - (i + 1) + 1 = omega arith in
    less (many - (i + 1)) (subst (λ (n : ℕ). HasRoomFor e n) left room)

-- all of it came
pub all_came : (d : Declared) (h new : List NodeEntry) (s : HeldState Stored) (places : List (ℕ × ℕ)) (i : ℕ) (e : Engine) → AddsPlaces journal_of d h new s places → length places ≤ i
    → KeepsRecords d (reverse (take i (reverse new)) ++ h) e → KeepsRecords d (new ++ h) e
all_came d h new s places i e a past k =
    subst (λ (es : List NodeEntry). KeepsRecords d (es ++ h) e)
    (ap (λ (es : List NodeEntry). reverse es) (take_all i (reverse new) (let m = many_new d h new s places a in omega arith)) ∙ reverse-reverse new) k
