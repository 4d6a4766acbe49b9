-- What holds of one job's own entries behind a history holds of all jobs' entries behind it.
use Rattle.std.proofs.Common.{◌≡◌, ◌⊎◌, ℕ, ◌<◌, ◌+◌, List, [], ◌∷◌, ◌++◌, inl, inr, refl, sym, ◌∙◌, ap, subst, cond, nat_eq, max, arith}
use Rattle.std.specs.Prelude.{All, Bool, true, false, Contains, IsTrue, filter, reverse, ◌&&◌, ◌||◌}
use Rattle.std.proofs.lemmas.Bool.Decides.{Decides-eqb}
use Rattle.std.proofs.lemmas.List.Elements.{All-nil, All-cons, All-head, All-tail}
use Rattle.pr_flow.specs.Lies.{IsLastOf, IsLied}
use Rattle.pr_inval.specs.declared.msg.Msg.{Msg}
use Rattle.pr_inval.specs.Messages.{IsMessage}
use Rattle.pr_inval.specs.Points.{to_of}
use Rattle.pr_inval.specs.Standing.{Remembered, Standing, standing_of}
use Rattle.pr_merge.specs.Holding.{IsSession}
use Rattle.pr_merge.proofs.Phasing.{has_reversed, is_apart}
use Rattle.pr_stamps.proofs.Contained.{contains_none, first_or_later, is_first, is_later}
use Rattle.pr_stamps.specs.Point.{Point}
use Rattle.pr_story.specs.declared.event.Event.{Event}
use Rattle.pr_story.specs.declared.event.Event.TheVariants.{Wrote, Attached, Sent, Idle, Stale, Accepted, Gapped, Missing, Down, Answered, Behind, Moved}
use Rattle.pr_story.specs.Clients.{client_vector, is_of_client, seen_after}
use Rattle.pr_story.specs.Counts.{AreDeclared, Counts, IsDeclared}
use Rattle.pr_story.specs.History.{NodeEntry, Plan, Sends, SomeEvent, WasSent, entries}
use Rattle.pr_story.specs.Laws.{StandsFor}
use Rattle.pr_story.specs.Merging.{AreApart, New, of_job, plain}
use Rattle.pr_story.specs.Turns.{Attaches, count_after, has_sent, is_body, is_of_stream, is_timed, position, position_after, sent_after, sent_count, stream_time}
use Rattle.pr_story.proofs.Lit.{bool_cases}
use Rattle.pr_vectors.specs.Vector.{join_of, raised}
use Rattle.pr_crew.specs.Tasks.{AreSpelled}

-- ---- what the events of other streams and clients leave

position_quiet : (event : Event) (s : ℕ) (p : List ℕ) → is_of_stream event s ≡ false → position_after event s p ≡ p
position_quiet (Attached stream at) s p off = ap (λ (b : Bool). cond b at p) off
position_quiet (Sent msg) s p off = ap (λ (b : Bool). cond b (join_of p (to_of msg.kind)) p) off
position_quiet _ s p off = refl

count_quiet : (event : Event) (s k : ℕ) → is_of_stream event s ≡ false → count_after event s k ≡ k
count_quiet (Sent msg) s k off = ap (λ (b : Bool). cond b (k + 1) k) off
count_quiet _ s k off = refl

sent_quiet : (event : Event) (s : ℕ) (o : List ℕ) (t : Point) (before : Bool) → is_of_stream event s ≡ false → sent_after event s o t before ≡ before
sent_quiet (Attached stream at) s o t before off = ap (λ (b : Bool). cond b false before) off
sent_quiet (Sent msg) s o t before off = ap (λ (b : Bool). (b && is_body msg.kind o t) || before) off
sent_quiet _ s o t before off = refl

timed_quiet : (event : Event) (s : ℕ) → is_of_stream event s ≡ false → is_timed event s ≡ false
timed_quiet (Missing stream number) s off = refl
timed_quiet event s off = off

time_quiet : (timed : Bool) (time t : ℕ) → timed ≡ false → max time (cond timed t 0) ≡ time
time_quiet true time t off = cc
time_quiet false time t off = omega arith

seen_quiet : (event : Event) (c : ℕ) (v : List ℕ) → is_of_client event c ≡ false → seen_after event c v ≡ v
seen_quiet (Wrote client write body after) c v off = ap (λ (b : Bool). cond b (join_of v (raised after write.stamp)) v) off
seen_quiet (Answered client name answer at) c v off = ap (λ (b : Bool). cond b (join_of v at) v) off
seen_quiet _ c v off = refl

-- ---- some of the entries, and all

-- the entries that are left out are none of these events
abbrev LeavesOut : (Event → Bool) → (New → Bool) → List New → Type 0
LeavesOut mine keep [] = Unit {0}
LeavesOut mine keep (x ∷ t) = (keep x ≡ false → mine x.made.entry.event ≡ false) × LeavesOut mine keep t

leaves_out : (mine : Event → Bool) (keep : New → Bool) (t : List New) → ((x : New) → Contains t x → keep x ≡ false → mine x.made.entry.event ≡ false) → LeavesOut mine keep t
leaves_out mine keep [] each = tt
leaves_out mine keep (x ∷ t) each = (each x (is_first x t), leaves_out mine keep t (λ y has. each y (is_later x t y has)))

module _ (h : List NodeEntry) where
  -- what is told from these events alone is the same by the entries that are kept
  module _ {X : Type 0} (mine : Event → Bool) (F : List NodeEntry → X) (step : NodeEntry → X → X) (more : (e : NodeEntry) (g : List NodeEntry) → F (e ∷ g) ≡ step e (F g))
      (quiet : (e : NodeEntry) (x : X) → mine e.entry.event ≡ false → step e x ≡ x) where
    same_by : (x : New) (kept t : List New) (b : Bool) → (b ≡ false → mine x.made.entry.event ≡ false) → F (plain kept ++ h) ≡ F (plain t ++ h)
        → F (plain (cond b (x ∷ kept) kept) ++ h) ≡ F (x.made ∷ (plain t ++ h))
    same_by x kept t true out rest = more x.made (plain kept ++ h) ∙ ap (λ (y : X). step x.made y) rest ∙ sym (more x.made (plain t ++ h))
    same_by x kept t false out rest = rest ∙ sym (quiet x.made (F (plain t ++ h)) (out refl)) ∙ sym (more x.made (plain t ++ h))

    same_kept : (keep : New → Bool) (t : List New) → LeavesOut mine keep t → F (plain (filter keep t) ++ h) ≡ F (plain t ++ h)
    same_kept keep [] out = refl
    same_kept keep (x ∷ t) out = same_by x (filter keep t) t (keep x) out.0 (same_kept keep t out.1)

  some_by : (P : Event → Type 0) (x : New) (kept t : List New) (b : Bool) → (SomeEvent P (entries (plain kept ++ h)) → SomeEvent P (entries (plain t ++ h)))
      → SomeEvent P (entries (plain (cond b (x ∷ kept) kept) ++ h)) → SomeEvent P (entries (x.made ∷ (plain t ++ h)))
  some_by P x kept t true rest some = elim some [ inl now ↦ inl now | inr old ↦ inr (rest old) ]
  some_by P x kept t false rest some = inr (rest some)

  some_kept : (P : Event → Type 0) (keep : New → Bool) (t : List New) → SomeEvent P (entries (plain (filter keep t) ++ h)) → SomeEvent P (entries (plain t ++ h))
  some_kept P keep [] some = some
  some_kept P keep (x ∷ t) some = some_by P x (filter keep t) t (keep x) (λ rest. some_kept P keep t rest) some

  time_kept : (s : ℕ) (keep : New → Bool) (t : List New) → LeavesOut (λ e. is_of_stream e s) keep t → stream_time (plain (filter keep t) ++ h) s ≡ stream_time (plain t ++ h) s
  time_kept s keep t out =
      same_kept (λ e. is_of_stream e s) (λ (g : List NodeEntry). stream_time g s) (λ (e : NodeEntry) (k : ℕ). max k (cond (is_timed e.entry.event s) e.entry.time 0)) (λ e g. refl)
      (λ e k off. time_quiet (is_timed e.entry.event s) k e.entry.time (timed_quiet e.entry.event s off)) keep t out

  seen_kept : (c : ℕ) (keep : New → Bool) (t : List New) → LeavesOut (λ e. is_of_client e c) keep t → client_vector (plain (filter keep t) ++ h) c ≡ client_vector (plain t ++ h) c
  seen_kept c keep t out =
      same_kept (λ e. is_of_client e c) (λ (g : List NodeEntry). client_vector g c) (λ (e : NodeEntry) (v : List ℕ). seen_after e.entry.event c v) (λ e g. refl)
      (λ e v off. seen_quiet e.entry.event c v off) keep t out

  -- the stream stands alike
  stands_kept : (plan : Plan) (s : ℕ) (keep : New → Bool) (t : List New) (st : Standing) → LeavesOut (λ e. is_of_stream e s) keep t
      → StandsFor plan (plain (filter keep t) ++ h) s st → StandsFor plan (plain t ++ h) s st
  stands_kept plan s keep t st out stands = record {
    names = stands.names;
    bodies = stands.bodies;
    position = stands.position ∙ same_kept (λ e. is_of_stream e s) (λ (g : List NodeEntry). position g s) (λ (e : NodeEntry) (p : List ℕ). position_after e.entry.event s p) (λ e g. refl) (λ e p off. position_quiet e.entry.event s p off) keep t out;
    number = stands.number ∙ same_kept (λ e. is_of_stream e s) (λ (g : List NodeEntry). sent_count g s) (λ (e : NodeEntry) (k : ℕ). count_after e.entry.event s k) (λ e g. refl) (λ e k off. count_quiet e.entry.event s k off) keep t out;
    time = stands.time ∙ time_kept s keep t out;
    sent = λ o p. stands.sent o p ∙ same_kept (λ e. is_of_stream e s) (λ (g : List NodeEntry). has_sent g s o p) (λ (e : NodeEntry) (b : Bool). sent_after e.entry.event s o p b) (λ e g. refl) (λ e b off. sent_quiet e.entry.event s o p b off) keep t out;
  }

  session_kept : (plan : Plan) (s : ℕ) (keep : New → Bool) (t : List New) (x : Remembered) → LeavesOut (λ e. is_of_stream e s) keep t
      → IsSession plan (plain (filter keep t) ++ h) s x → IsSession plan (plain t ++ h) s x
  session_kept plan s keep t x out is = record {
    stream = is.stream;
    stands = stands_kept plan s keep t (standing_of x) out is.stands;
    attached = λ on. some_kept (λ e. Attaches e s) keep t (is.attached on);
  }

-- ---- the last event of a stream

-- the last of the stream's events is this one
abbrev IsLast : ℕ → Event → List NodeEntry → Type 0
IsLast s event [] = ⊥
IsLast s event (e ∷ h) = (e.entry.event ≡ event) ⊎ ((is_of_stream e.entry.event s ≡ false) × IsLast s event h)

abbrev IsOfOther : ℕ → NodeEntry → Type 0
IsOfOther s e = is_of_stream e.entry.event s ≡ false

is_last : (s : ℕ) (event : Event) (newer : List NodeEntry) (this : NodeEntry) (older : List NodeEntry) → this.entry.event ≡ event → All (λ (e : NodeEntry). is_of_stream e.entry.event s ≡ false) newer
    → IsLast s event (newer ++ this ∷ older)
is_last s event [] this older is others = inl is
is_last s event (e ∷ newer) this older is others =
    inr (All-head (IsOfOther s) e newer others, is_last s event newer this older is (All-tail (IsOfOther s) e newer others))

last_of : (s : ℕ) (event : Event) (h : List NodeEntry) → IsLast s event h → IsLastOf h s event
last_of s event [] last = absurd last
last_of s event (e ∷ h) last = elim last [
  | inl is ↦ record { newer = []; this = e; older = h; all = refl; event_is = is; others = All-nil (IsOfOther s) }
  | inr later ↦ (let rest = last_of s event h later.1 in record {
    newer = e ∷ rest.newer;
    this = rest.this;
    older = rest.older;
    all = ap (λ (es : List NodeEntry). e ∷ es) rest.all;
    event_is = rest.event_is;
    others = All-cons (IsOfOther s) e rest.newer later.0 rest.others;
  })
]

module _ (s : ℕ) (event : Event) (h : List NodeEntry) where
  last_by : (x : New) (kept t : List New) (b : Bool) → (b ≡ false → is_of_stream x.made.entry.event s ≡ false) → (IsLast s event (plain kept ++ h) → IsLast s event (plain t ++ h))
      → IsLast s event (plain (cond b (x ∷ kept) kept) ++ h) → IsLast s event (x.made ∷ (plain t ++ h))
  last_by x kept t true out rest last = elim last [ inl is ↦ inl is | inr later ↦ inr (later.0, rest later.1) ]
  last_by x kept t false out rest last = inr (out refl, rest last)

  last_kept : (keep : New → Bool) (t : List New) → LeavesOut (λ e. is_of_stream e s) keep t → IsLast s event (plain (filter keep t) ++ h) → IsLast s event (plain t ++ h)
  last_kept keep [] out last = last
  last_kept keep (x ∷ t) out last = last_by x (filter keep t) t (keep x) out.0 (λ rest. last_kept keep t out.1 rest) last

lied_kept : (h : List NodeEntry) (s number : ℕ) (sent got : List ℕ) (keep : New → Bool) (t : List New) → LeavesOut (λ e. is_of_stream e s) keep t
    → IsLied (plain (filter keep t) ++ h) s number sent got → IsLied (plain t ++ h) s number sent got
lied_kept h s number sent got keep t out lied =
    let last = subst (λ (g : List NodeEntry). IsLast s (Sent lied.msg) g) (sym lied.last.all) (is_last s (Sent lied.msg) lied.last.newer lied.last.this lied.last.older lied.last.event_is lied.last.others) in
    record {
      msg = lied.msg;
      stream = lied.stream;
      last = last_of s (Sent lied.msg) (plain t ++ h) (last_kept s (Sent lied.msg) h keep t out last);
      lie = lied.lie;
    }

-- ---- the entries of one job

job_kept : (k : ℕ) (t : List New) → of_job t k ≡ filter (λ (x : New). nat_eq x.job k) t
job_kept k [] = refl
job_kept k (x ∷ t) = ap (λ (l : List New). cond (nat_eq x.job k) (x ∷ l) l) (job_kept k t)

none_kept : (t : List New) → filter (λ (x : New). false) t ≡ []
none_kept [] = refl
none_kept (x ∷ t) = none_kept t

either : (y : New) (l : List New) (x : New) (b : Bool) → Contains l x → Contains (cond b (y ∷ l) l) x
either y l x true has = is_later y l x has
either y l x false has = has

job_has : (t : List New) (x : New) → Contains t x → Contains (of_job t x.job) x
job_has [] x has = absurd (contains_none x has)
job_has (y ∷ t) x has = elim (first_or_later y t x has) [
  | inl here ↦ subst (λ (b : Bool). Contains (cond b (y ∷ of_job t x.job) (of_job t x.job)) x) (sym ((Decides-eqb y.job x.job).1 (ap (λ (z : New). z.job) here)))
      (subst (λ (z : New). Contains (y ∷ of_job t x.job) z) here (is_first y (of_job t x.job)))
  | inr later ↦ either y (of_job t x.job) x (nat_eq y.job x.job) (job_has t x later)
]

-- in the merged list each job has its own entries
module _ (all : List New) (jobs : ℕ → List New) (parts : (k : ℕ) → of_job all k ≡ reverse (jobs k)) where
  pub in_job : (x : New) → Contains all x → Contains (jobs x.job) x
  in_job x has = has_reversed (jobs x.job) x (subst (λ (l : List New). Contains l x) (parts x.job) (job_has all x has))

  part_is : (k : ℕ) → filter (λ (x : New). nat_eq x.job k) all ≡ reverse (jobs k)
  part_is k = sym (job_kept k all) ∙ parts k

  -- no stream and no client is in two jobs
  module _ (streams clients : ℕ → ℕ) (apart : (k : ℕ) → AreApart streams clients (jobs k)) where
    pub stream_outside : (s k : ℕ) → streams s ≡ k → (x : New) → Contains all x → nat_eq x.job k ≡ false → is_of_stream x.made.entry.event s ≡ false
    stream_outside s k is x has away = elim (bool_cases (is_of_stream x.made.entry.event s)) [
      | inl on ↦ (let bad : nat_eq x.job k ≡ true = (Decides-eqb x.job k).1 ((is_apart streams clients (jobs x.job) x (apart x.job) (in_job x has)).1 s on ∙ is) in absurd (cc))
      | inr off ↦ off
    ]

    client_outside : (c k : ℕ) → clients c ≡ k → (x : New) → Contains all x → nat_eq x.job k ≡ false → is_of_client x.made.entry.event c ≡ false
    client_outside c k is x has away = elim (bool_cases (is_of_client x.made.entry.event c)) [
      | inl on ↦ (let bad : nat_eq x.job k ≡ true = (Decides-eqb x.job k).1 ((is_apart streams clients (jobs x.job) x (apart x.job) (in_job x has)).2 c on ∙ is) in absurd (cc))
      | inr off ↦ off
    ]

    module _ (h : List NodeEntry) (s k : ℕ) (is : streams s ≡ k) where
      stream_out : LeavesOut (λ e. is_of_stream e s) (λ (x : New). nat_eq x.job k) all
      stream_out = leaves_out (λ e. is_of_stream e s) (λ (x : New). nat_eq x.job k) all (stream_outside s k is)

      pub stands_here : (plan : Plan) (st : Standing) → StandsFor plan (plain (reverse (jobs k)) ++ h) s st → StandsFor plan (plain all ++ h) s st
      stands_here plan st stands = stands_kept h plan s (λ (x : New). nat_eq x.job k) all st stream_out (subst (λ (xs : List New). StandsFor plan (plain xs ++ h) s st) (sym (part_is k)) stands)

      pub session_here : (plan : Plan) (x : Remembered) → IsSession plan (plain (reverse (jobs k)) ++ h) s x → IsSession plan (plain all ++ h) s x
      session_here plan x session = session_kept h plan s (λ (y : New). nat_eq y.job k) all x stream_out (subst (λ (xs : List New). IsSession plan (plain xs ++ h) s x) (sym (part_is k)) session)

      pub lied_here : (number : ℕ) (sent got : List ℕ) → IsLied (plain (reverse (jobs k)) ++ h) s number sent got → IsLied (plain all ++ h) s number sent got
      lied_here number sent got lied = lied_kept h s number sent got (λ (x : New). nat_eq x.job k) all stream_out (subst (λ (xs : List New). IsLied (plain xs ++ h) s number sent got) (sym (part_is k)) lied)

      pub time_here : stream_time (plain (reverse (jobs k)) ++ h) s ≡ stream_time (plain all ++ h) s
      time_here = ap (λ (xs : List New). stream_time (plain xs ++ h) s) (sym (part_is k)) ∙ time_kept h s (λ (x : New). nat_eq x.job k) all stream_out

    pub seen_here : (h : List NodeEntry) (c k : ℕ) → clients c ≡ k → client_vector (plain (reverse (jobs k)) ++ h) c ≡ client_vector (plain all ++ h) c
    seen_here h c k is =
        ap (λ (xs : List New). client_vector (plain xs ++ h) c) (sym (part_is k))
        ∙ seen_kept h c (λ (x : New). nat_eq x.job k) all (leaves_out (λ e. is_of_client e c) (λ (x : New). nat_eq x.job k) all (client_outside c k is))

  -- what is sent is spelled where each job's messages are
  pub spelled_here : ((k : ℕ) → AreSpelled (jobs k)) → AreSpelled all
  spelled_here spelled x msg has is = spelled x.job x msg (in_job x has) is

-- ---- a stream of no job

module _ (plan : Plan) (h : List NodeEntry) (all : List New) (s : ℕ) (none : (x : New) → Contains all x → is_of_stream x.made.entry.event s ≡ false) where
  none_out : LeavesOut (λ e. is_of_stream e s) (λ (x : New). false) all
  none_out = leaves_out (λ e. is_of_stream e s) (λ (x : New). false) all (λ x has out. none x has)

  pub stands_still : (st : Standing) → StandsFor plan h s st → StandsFor plan (plain all ++ h) s st
  stands_still st stands = stands_kept h plan s (λ (x : New). false) all st none_out (subst (λ (xs : List New). StandsFor plan (plain xs ++ h) s st) (sym (none_kept all)) stands)

  pub session_still : (x : Remembered) → IsSession plan h s x → IsSession plan (plain all ++ h) s x
  session_still x session = session_kept h plan s (λ (y : New). false) all x none_out (subst (λ (xs : List New). IsSession plan (plain xs ++ h) s x) (sym (none_kept all)) session)

-- ---- what is declared, and the grammar

pub declared_here : (counts : Counts) (h : List NodeEntry) (all : List New) → AreDeclared counts h → ((x : New) → Contains all x → (x.made.node < counts.nodes) × IsDeclared counts x.made.entry.event)
    → AreDeclared counts (plain all ++ h)
declared_here counts h [] were each = were
declared_here counts h (x ∷ t) were each = (each x (is_first x t), declared_here counts h t were (λ y has. each y (is_later x t y has)))

same_below : (a b count : ℕ) → nat_eq a b ≡ true → b < count → a < count
same_below a b count same lt = subst (λ (k : ℕ). k < count) (sym ((Decides-eqb a b).0 same)) lt

pub declared_client : (counts : Counts) (event : Event) (c : ℕ) → IsTrue (is_of_client event c) → c < counts.clients → IsDeclared counts event
declared_client counts (Wrote client write body after) c on lt = same_below client c counts.clients on lt
declared_client counts (Answered client name answer at) c on lt = same_below client c counts.clients on lt
declared_client counts (Behind client needs has) c on lt = same_below client c counts.clients on lt
declared_client counts (Moved client) c on lt = same_below client c counts.clients on lt
declared_client counts _ c on lt = cc

pub declared_stream : (counts : Counts) (event : Event) (s : ℕ) → IsTrue (is_of_stream event s) → s < counts.streams → IsDeclared counts event
declared_stream counts (Attached stream at) s on lt = same_below stream s counts.streams on lt
declared_stream counts (Sent msg) s on lt = same_below msg.stream s counts.streams on lt
declared_stream counts (Idle stream) s on lt = same_below stream s counts.streams on lt
declared_stream counts (Stale stream cut) s on lt = same_below stream s counts.streams on lt
declared_stream counts (Accepted msg at) s on lt = same_below msg.stream s counts.streams on lt
declared_stream counts (Gapped msg has) s on lt = same_below msg.stream s counts.streams on lt
declared_stream counts (Missing stream number) s on lt = same_below stream s counts.streams on lt
declared_stream counts (Down stream cause) s on lt = same_below stream s counts.streams on lt
declared_stream counts _ s on lt = cc

sends_is : (event : Event) (msg : Msg) → Sends event msg → event ≡ Sent msg
sends_is (Sent other) msg is = ap Sent is
sends_is _ msg is = absurd is

pub grammar_here : (h : List NodeEntry) (all : List New) → ((msg : Msg) → WasSent h msg → IsMessage msg) → AreSpelled all → (msg : Msg) → WasSent (plain all ++ h) msg → IsMessage msg
grammar_here h [] before spelled msg sent = before msg sent
grammar_here h (x ∷ t) before spelled msg sent = elim sent [
  | inl now ↦ spelled x msg (is_first x t) (sends_is x.made.entry.event msg now)
  | inr old ↦ grammar_here h t before (λ y m has is. spelled y m (is_later x t y has) is) msg old
]

-- a client sends no message
not_sent : (event : Event) (c : ℕ) (msg : Msg) → IsTrue (is_of_client event c) → event ≡ Sent msg → ⊥
not_sent event c msg on is = let bad : is_of_client (Sent msg) c ≡ true = subst (λ (e : Event). is_of_client e c ≡ true) is on in cc

pub client_spelled : (c : ℕ) (xs : List New) → All (λ (x : New). IsTrue (is_of_client x.made.entry.event c)) xs → AreSpelled xs
client_spelled c [] all x msg has is = absurd (contains_none x has)
client_spelled c (y ∷ xs) all x msg has is = elim (first_or_later y xs x has) [
  | inl here ↦ absurd (not_sent x.made.entry.event c msg (subst (λ (z : New). IsTrue (is_of_client z.made.entry.event c)) here (All-head (λ (z : New). IsTrue (is_of_client z.made.entry.event c)) y xs all)) is)
  | inr later ↦ client_spelled c xs (All-tail (λ (z : New). IsTrue (is_of_client z.made.entry.event c)) y xs all) x msg later is
]
