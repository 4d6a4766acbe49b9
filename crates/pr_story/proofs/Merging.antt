-- Jobs beside each other give a valid history, in any order that keeps that of each node and of each job.
use Rattle.std.proofs.Common.{◌≡◌, ℕ, ◌+◌, ◌⊎◌, inl, inr, List, [], ◌∷◌, ◌++◌, refl, sym, ◌∙◌, ap, subst, arith, max, cond, nat_eq}
use Rattle.std.specs.Prelude.{false, true, IsTrue, Bool, ◌&&◌, ◌||◌}
use Rattle.std.proofs.lemmas.Bool.Decides.{Decides-eqb}
use Rattle.pr_stamps.specs.Point.{Point}
use Rattle.pr_vectors.specs.Vector.{join_of, raised}
use Rattle.pr_story.specs.declared.entry.Entry.{Entry}
use Rattle.pr_story.specs.declared.event.Event.{Event}
use Rattle.pr_story.specs.declared.event.Event.TheVariants.{Attached, Sent, Idle, Stale, Accepted, Gapped, Missing, Down, Wrote, Answered, Behind, Moved}
use Rattle.pr_story.specs.declared.cause.Cause.{Cause}
use Rattle.pr_story.specs.declared.cause.Cause.TheVariants.{Failed, Ended, Gap}
use Rattle.pr_inval.specs.Points.{to_of}
use Rattle.pr_story.specs.History.{Plan, NodeEntry, SomeEvent, journal, entries, Sends}
use Rattle.pr_story.specs.Clients.{is_of_client, is_with_needs, node_after, client_node, seen_after, client_vector}
use Rattle.pr_inval.specs.Standing.{Standing}
use Rattle.pr_story.specs.Turns.{is_of_stream, is_with_session, is_timed, Attaches, position, position_after, sent_count, count_after, has_sent, sent_after, is_body, stream_time}
use Rattle.pr_story.specs.Lawful.{HasCause, IsPlaced, IsOwnLawful, Valid, is_after_gap, is_gap, DownAfter}
use Rattle.pr_story.specs.Laws.{StandsFor}
use Rattle.pr_story.specs.Merging.{New, plain, just, of_job, of_node, IsNodeRun, IsJobRun, IsNoMissing, AreApart}
use Rattle.pr_story.proofs.OneMore.{one_more, itself}
use Rattle.pr_story.specs.Statements.{Merges}

-- ---- what the events of other streams leave

position_quiet : (event : Event) (s : ℕ) (p : List ℕ) → is_of_stream event s ≡ false → position_after event s p ≡ p
position_quiet (Attached stream at) s p o = ap (λ (b : Bool). cond b at p) o
position_quiet (Sent msg) s p o = ap (λ (b : Bool). cond b (join_of p (to_of msg.kind)) p) o
position_quiet _ s p o = refl

count_quiet : (event : Event) (s k : ℕ) → is_of_stream event s ≡ false → count_after event s k ≡ k
count_quiet (Sent msg) s k o = ap (λ (b : Bool). cond b (k + 1) k) o
count_quiet _ s k o = refl

sent_quiet : (event : Event) (s : ℕ) (o : List ℕ) (t : Point) (b : Bool) → is_of_stream event s ≡ false → sent_after event s o t b ≡ b
sent_quiet (Attached stream at) s o t b f = ap (λ (c : Bool). cond c false b) f
sent_quiet (Sent msg) s o t b f = ap (λ (c : Bool). (c && is_body msg.kind o t) || b) f
sent_quiet _ s o t b f = refl

timed_quiet : (event : Event) (s : ℕ) → is_of_stream event s ≡ false → is_timed event s ≡ false
timed_quiet (Missing stream number) s f = refl
timed_quiet event s f = f

time_quiet : (b : Bool) (x t : ℕ) → b ≡ false → max x (cond b t 0) ≡ x
time_quiet true x t f = cc
time_quiet false x t f = omega arith

node_quiet : (event : Event) (n c m : ℕ) → is_of_client event c ≡ false → node_after event n c m ≡ m
node_quiet (Moved client) n c m o = ap (λ (b : Bool). cond b n m) o
node_quiet _ n c m o = refl

seen_quiet : (event : Event) (c : ℕ) (v : List ℕ) → is_of_client event c ≡ false → seen_after event c v ≡ v
seen_quiet (Wrote client write body after) c v o = ap (λ (b : Bool). cond b (join_of v (raised after write.stamp)) v) o
seen_quiet (Answered client name answer at) c v o = ap (λ (b : Bool). cond b (join_of v at) v) o
seen_quiet _ c v o = refl

gap_step : (b : Bool) (e : Entry) (j : List Entry) (s : ℕ) → is_after_gap (cond b (e ∷ j) j) s ≡ cond (b && is_of_stream e.event s) (is_gap e.event) (is_after_gap j s)
gap_step true e j s = refl
gap_step false e j s = refl

gap_quiet : (a b c x : Bool) → b ≡ false → cond (a && b) c x ≡ x
gap_quiet true b c x f = ap (λ (d : Bool). cond d c x) f
gap_quiet false b c x f = refl

-- ---- one job's events among all

bool_cases : (b : Bool) → (b ≡ true) ⊎ (b ≡ false)
bool_cases true = inl refl
bool_cases false = inr refl

differs : (a b : ℕ) → nat_eq a b ≡ false → a ≡ b → ⊥
differs a b f e = let t : nat_eq a b ≡ true = (Decides-eqb a b).1 e in cc

-- the events that pass the test are of job k alone
abbrev IsOneJob : ℕ → (Event → Bool) → List New → Type 0
IsOneJob k mine [] = Unit {0}
IsOneJob k mine (x ∷ t) = (IsTrue (mine x.made.entry.event) → x.job ≡ k) × IsOneJob k mine t

of_stream : (streams clients : ℕ → ℕ) (s : ℕ) (t : List New) → AreApart streams clients t → IsOneJob (streams s) (λ e. is_of_stream e s) t
of_stream streams clients s [] a = tt
of_stream streams clients s (x ∷ t) a = (a.0.1 s, of_stream streams clients s t a.1)

of_client : (streams clients : ℕ → ℕ) (c : ℕ) (t : List New) → AreApart streams clients t → IsOneJob (clients c) (λ e. is_of_client e c) t
of_client streams clients c [] a = tt
of_client streams clients c (x ∷ t) a = (a.0.2 c, of_client streams clients c t a.1)

module _ (k : ℕ) (mine : Event → Bool) (h : List NodeEntry) where
  -- what is counted from these events alone is the same in their own job
  keeps : {X : Type 0} (F : List NodeEntry → X) (step : NodeEntry → X → X) → ((e : NodeEntry) (g : List NodeEntry) → F (e ∷ g) ≡ step e (F g))
      → ((e : NodeEntry) (x : X) → mine e.entry.event ≡ false → step e x ≡ x)
      → (t : List New) → IsOneJob k mine t → F (plain (of_job t k) ++ h) ≡ F (plain t ++ h)
  keeps F step more quiet [] a = refl
  keeps F step more quiet (x ∷ t) a =
      let rest : F (plain (of_job t k) ++ h) ≡ F (plain t ++ h) = keeps F step more quiet t a.1 in
      elim (bool_cases (nat_eq x.job k)) [
        | inl here ↦ subst (λ (b : Bool). F (plain (cond b (x ∷ of_job t k) (of_job t k)) ++ h) ≡ F (x.made ∷ (plain t ++ h))) (sym here)
            (more x.made (plain (of_job t k) ++ h) ∙ ap (λ (y : _). step x.made y) rest ∙ sym (more x.made (plain t ++ h)))
        | inr away ↦
            let off : mine x.made.entry.event ≡ false = elim (bool_cases (mine x.made.entry.event)) [ inl on ↦ absurd (differs x.job k away (a.0 on)) | inr off ↦ off ] in
            subst (λ (b : Bool). F (plain (cond b (x ∷ of_job t k) (of_job t k)) ++ h) ≡ F (x.made ∷ (plain t ++ h))) (sym away)
            (rest ∙ sym (quiet x.made (F (plain t ++ h)) off) ∙ sym (more x.made (plain t ++ h)))
      ]

module _ (streams clients : ℕ → ℕ) (h : List NodeEntry) where
  stands_all : (s : ℕ) (plan : Plan) (t : List New) (st : Standing) → AreApart streams clients t → StandsFor plan (plain (of_job t (streams s)) ++ h) s st → StandsFor plan (plain t ++ h) s st
  stands_all s plan t st a f = record {
    names = f.names;
    bodies = f.bodies;
    position = f.position ∙ keeps (streams s) (λ e. is_of_stream e s) h (λ (g : List NodeEntry). position g s) (λ (e : NodeEntry) (p : List ℕ). position_after e.entry.event s p) (λ e g. refl) (λ e p o. position_quiet e.entry.event s p o) t (of_stream streams clients s t a);
    number = f.number ∙ keeps (streams s) (λ e. is_of_stream e s) h (λ (g : List NodeEntry). sent_count g s) (λ (e : NodeEntry) (k : ℕ). count_after e.entry.event s k) (λ e g. refl) (λ e k o. count_quiet e.entry.event s k o) t (of_stream streams clients s t a);
    time = f.time ∙ keeps (streams s) (λ e. is_of_stream e s) h (λ (g : List NodeEntry). stream_time g s) (λ (e : NodeEntry) (k : ℕ). max k (cond (is_timed e.entry.event s) e.entry.time 0)) (λ e g. refl) (λ e k o. time_quiet (is_timed e.entry.event s) k e.entry.time (timed_quiet e.entry.event s o)) t (of_stream streams clients s t a);
    sent = λ o p. f.sent o p ∙ keeps (streams s) (λ e. is_of_stream e s) h (λ (g : List NodeEntry). has_sent g s o p) (λ (e : NodeEntry) (b : Bool). sent_after e.entry.event s o p b) (λ e g. refl) (λ e b q. sent_quiet e.entry.event s o p b q) t (of_stream streams clients s t a);
  }

  gap_all : (s n : ℕ) (t : List New) → AreApart streams clients t → is_after_gap (journal (plain (of_job t (streams s)) ++ h) n) s ≡ is_after_gap (journal (plain t ++ h) n) s
  gap_all s n t a = keeps (streams s) (λ e. is_of_stream e s) h (λ (g : List NodeEntry). is_after_gap (journal g n) s) (λ (e : NodeEntry) (b : Bool). cond (nat_eq e.node n && is_of_stream e.entry.event s) (is_gap e.entry.event) b)
      (λ e g. gap_step (nat_eq e.node n) e.entry (journal g n) s) (λ e b o. gap_quiet (nat_eq e.node n) (is_of_stream e.entry.event s) (is_gap e.entry.event) b o) t (of_stream streams clients s t a)

  node_all : (plan : Plan) (c : ℕ) (t : List New) → AreApart streams clients t → client_node plan (plain (of_job t (clients c)) ++ h) c ≡ client_node plan (plain t ++ h) c
  node_all plan c t a = keeps (clients c) (λ e. is_of_client e c) h (λ (g : List NodeEntry). client_node plan g c) (λ (e : NodeEntry) (n : ℕ). node_after e.entry.event e.node c n) (λ e g. refl) (λ e n o. node_quiet e.entry.event e.node c n o) t (of_client streams clients c t a)

  seen_all : (c : ℕ) (t : List New) → AreApart streams clients t → client_vector (plain (of_job t (clients c)) ++ h) c ≡ client_vector (plain t ++ h) c
  seen_all c t a = keeps (clients c) (λ e. is_of_client e c) h (λ (g : List NodeEntry). client_vector g c) (λ (e : NodeEntry) (v : List ℕ). seen_after e.entry.event c v) (λ e g. refl) (λ e v o. seen_quiet e.entry.event c v o) t (of_client streams clients c t a)

  placed_at : (plan : Plan) (n k c : ℕ) (t : List New) → AreApart streams clients t → k ≡ clients c → n ≡ client_node plan (plain (of_job t k) ++ h) c → n ≡ client_node plan (plain t ++ h) c
  placed_at plan n k c t a is p = p ∙ ap (λ (q : ℕ). client_node plan (plain (of_job t q) ++ h) c) is ∙ node_all plan c t a

  placed_all : (plan : Plan) (n k : ℕ) (t : List New) (event : Event) → AreApart streams clients t → ((c : ℕ) → IsTrue (is_of_client event c) → k ≡ clients c)
      → IsPlaced plan (plain (of_job t k) ++ h) n event → IsPlaced plan (plain t ++ h) n event
  placed_all plan n k t (Wrote client write body after) a o p = placed_at plan n k client t a (o client (itself client)) p
  placed_all plan n k t (Answered client name answer at) a o p = placed_at plan n k client t a (o client (itself client)) p
  placed_all plan n k t (Behind client needs has) a o p = placed_at plan n k client t a (o client (itself client)) p
  placed_all plan n k t (Attached s at) a o p = p
  placed_all plan n k t (Sent msg) a o p = p
  placed_all plan n k t (Idle s) a o p = p
  placed_all plan n k t (Stale s cut) a o p = p
  placed_all plan n k t (Accepted msg at) a o p = p
  placed_all plan n k t (Gapped msg has) a o p = p
  placed_all plan n k t (Missing s number) a o p = p
  placed_all plan n k t (Down s cause) a o p = p
  placed_all plan n k t _ a o p = tt

-- an event of a job is one of all
some_by : (P : Event → Type 0) (h : List NodeEntry) (x : New) (j t : List New) (b : Bool) → (SomeEvent P (entries (plain j ++ h)) → SomeEvent P (entries (plain t ++ h)))
    → SomeEvent P (entries (plain (cond b (x ∷ j) j) ++ h)) → SomeEvent P (entries (x.made ∷ (plain t ++ h)))
some_by P h x j t true rest e = elim e [ inl now ↦ inl now | inr old ↦ inr (rest old) ]
some_by P h x j t false rest e = inr (rest e)

some_all : (P : Event → Type 0) (h : List NodeEntry) (k : ℕ) (t : List New) → SomeEvent P (entries (plain (of_job t k) ++ h)) → SomeEvent P (entries (plain t ++ h))
some_all P h k [] e = e
some_all P h k (x ∷ t) e = some_by P h x (of_job t k) t (nat_eq x.job k) (λ o. some_all P h k t o) e

down_after : (cause : Cause) (a b : Bool) → a ≡ b → DownAfter cause a → DownAfter cause b
down_after Gap a b e d = sym e ∙ d
down_after Failed a b e d = tt
down_after Ended a b e d = tt

cause_all : (streams clients : ℕ → ℕ) (h : List NodeEntry) (n k : ℕ) (t : List New) (event : Event) → AreApart streams clients t → IsNoMissing event → ((s : ℕ) → IsTrue (is_of_stream event s) → k ≡ streams s)
    → HasCause (plain (of_job t k) ++ h) n event → HasCause (plain t ++ h) n event
cause_all streams clients h n k t (Sent msg) a m o c = some_all (λ e. Attaches e msg.stream) h k t c
cause_all streams clients h n k t (Idle s) a m o c = some_all (λ e. Attaches e s) h k t c
cause_all streams clients h n k t (Stale s cut) a m o c = some_all (λ e. Attaches e s) h k t c
cause_all streams clients h n k t (Accepted msg at) a m o c = some_all (λ e. Sends e msg) h k t c
cause_all streams clients h n k t (Gapped msg has) a m o c = some_all (λ e. Sends e msg) h k t c
cause_all streams clients h n k t (Missing s number) a m o c = absurd m
cause_all streams clients h n k t (Down s cause) a m o c =
    let same : is_after_gap (journal (plain (of_job t k) ++ h) n) s ≡ is_after_gap (journal (plain t ++ h) n) s =
    subst (λ (q : ℕ). is_after_gap (journal (plain (of_job t q) ++ h) n) s ≡ is_after_gap (journal (plain t ++ h) n) s) (sym (o s (itself s))) (gap_all streams clients h s n t a) in
    (some_all (λ e. Attaches e s) h k t c.0, down_after cause (is_after_gap (journal (plain (of_job t k) ++ h) n) s) (is_after_gap (journal (plain t ++ h) n) s) same c.1)
cause_all streams clients h n k t _ a m o c = tt

-- ---- one node's entries among all

journal_by : (b : Bool) (x : New) (k : List New) (j g : List Entry) → just k ++ j ≡ g → just (cond b (x ∷ k) k) ++ j ≡ cond b (x.made.entry ∷ g) g
journal_by true x k j g e = ap (λ (l : List Entry). x.made.entry ∷ l) e
journal_by false x k j g e = e

pub journal_all : (h : List NodeEntry) (n : ℕ) (t : List New) → just (of_node t n) ++ journal h n ≡ journal (plain t ++ h) n
journal_all h n [] = refl
journal_all h n (x ∷ t) = journal_by (nat_eq x.made.node n) x (of_node t n) (journal h n) (journal (plain t ++ h) n) (journal_all h n t)

node_tail : (plan : Plan) (h : List NodeEntry) (n : ℕ) (b : Bool) (x : New) (t : List New) → IsNodeRun plan h n (cond b (x ∷ t) t) → IsNodeRun plan h n t
node_tail plan h n true x t r = r.1
node_tail plan h n false x t r = r

job_tail : (plan : Plan) (h : List NodeEntry) (b : Bool) (x : New) (t : List New) → IsJobRun plan h (cond b (x ∷ t) t) → IsJobRun plan h t
job_tail plan h true x t r = r.1
job_tail plan h false x t r = r

pub session_of : (event : Event) (s : ℕ) → IsTrue (is_with_session event s) → IsTrue (is_of_stream event s)
session_of (Attached stream at) s t = t
session_of (Sent msg) s t = t
session_of (Idle stream) s t = t
session_of (Stale stream cut) s t = t
session_of (Down stream cause) s t = t
session_of _ s t = cc

client_of : (event : Event) (c : ℕ) → IsTrue (is_with_needs event c) → IsTrue (is_of_client event c)
client_of (Wrote client write body after) c t = t
client_of (Answered client name answer at) c t = t
client_of (Behind client needs has) c t = t
client_of _ c t = cc

pub merges : Merges
merges plan h [] streams clients v nodes jobs apart = v
merges plan h (x ∷ t) streams clients v nodes jobs apart =
    let n : ℕ = x.made.node in
    let valid : Valid plan (plain t ++ h) = merges plan h t streams clients v (λ m. node_tail plan h m (nat_eq x.made.node m) x (of_node t m) (nodes m)) (λ k. job_tail plan h (nat_eq x.job k) x (of_job t k) (jobs k)) apart.1 in
    let node : IsNodeRun plan h x.made.node (x ∷ of_node t x.made.node) = subst (λ (b : Bool). IsNodeRun plan h x.made.node (cond b (x ∷ of_node t x.made.node) (of_node t x.made.node))) (itself x.made.node) (nodes x.made.node) in
    let job : IsJobRun plan h (x ∷ of_job t x.job) = subst (λ (b : Bool). IsJobRun plan h (cond b (x ∷ of_job t x.job) (of_job t x.job))) (itself x.job) (jobs x.job) in
    let own : IsOwnLawful (λ s. x.session) (λ c. x.needs) (plan.sets x.made.node) x.made.node (journal (plain t ++ h) x.made.node) x.made.entry =
    subst (λ (j : List Entry). IsOwnLawful (λ s. x.session) (λ c. x.needs) (plan.sets x.made.node) x.made.node j x.made.entry) (journal_all h x.made.node t) node.0 in
    one_more plan (plain t ++ h) x.made (λ s. x.session) (λ c. x.needs) valid
    (λ s of. stands_all streams clients h s plan t x.session apart.1 (subst (λ (k : ℕ). StandsFor plan (plain (of_job t k) ++ h) s x.session) (apart.0.1 s (session_of x.made.entry.event s of)) (job.0.3 s of)))
    (λ c of. subst (λ (k : ℕ). x.needs ≡ client_vector (plain (of_job t k) ++ h) c) (apart.0.2 c (client_of x.made.entry.event c of)) (job.0.4 c of) ∙ seen_all streams clients h c t apart.1)
    job.0.0 (placed_all streams clients h plan x.made.node x.job t x.made.entry.event apart.1 apart.0.2 job.0.1)
    (cause_all streams clients h x.made.node x.job t x.made.entry.event apart.1 apart.0.0 apart.0.1 job.0.2) own
