-- The lines determine the history.
use Rattle.std.proofs.Common.{◌≡◌, ℕ, ◌≤◌, ◌+◌, inl, inr, List, [], ◌∷◌, refl, sym, ◌∙◌, ap, subst, arith, max, cond, nat_eq}
use Rattle.std.specs.Prelude.{false, true, Bool}
use Rattle.std.proofs.lemmas.Bool.Decides.{Decides-eqb}
use Rattle.pr_inval.specs.declared.kind.Kind.{Kind}
use Rattle.pr_inval.specs.declared.msg.Msg.{Msg}
use Rattle.pr_story.specs.declared.entry.Entry.{Entry}
use Rattle.pr_story.specs.declared.event.Event.{Event}
use Rattle.pr_story.specs.declared.event.Event.TheVariants.{Wrote, Attached, Sent, Idle, Stale, Accepted, Gapped, Missing, Down, Answered, Behind, Moved, Cut, Dropped, Conflicts, State}
use Rattle.pr_story.specs.History.{Plan, NodeEntry, journal, Sends, WasSent}
use Rattle.pr_story.specs.Turns.{standing, sent_count, count_after, stream_time, is_timed}
use Rattle.pr_story.specs.Lawful.{IsLawful, Valid, last_time, heard_time, HasCause}
use Rattle.pr_story.specs.Lines.{IsSameNumber, SaySame, without_callers}
use Rattle.pr_story.proofs.Steps.{entry_at}
use Rattle.pr_story.specs.Statements.{LinesDetermine}

-- ---- each number is sent once

count_grows : (event : Event) (s k : ℕ) → k ≤ count_after event s k
count_grows (Sent msg) s k = by (nat_eq msg.stream s)
  where
    by : (b : Bool) → k ≤ cond b (k + 1) k
    by true = omega arith
    by false = omega arith
count_grows _ s k = omega arith

counts_itself : (b : Bool) (k : ℕ) → b ≡ true → cond b (k + 1) k ≡ k + 1
counts_itself true k e = refl
counts_itself false k e = cc

new_number : (plan : Plan) (h : List NodeEntry) (n time caller : ℕ) (event : Event) (msg : Msg) → IsLawful plan h (entry_at n time caller event) → Sends event msg →
    (msg.number ≡ sent_count h msg.stream + 1) × (count_after event msg.stream (sent_count h msg.stream) ≡ sent_count h msg.stream + 1)
new_number plan h n time caller (Sent other) msg l is =
    subst (λ (m : Msg). (m.number ≡ sent_count h m.stream + 1) × (count_after (Sent other) m.stream (sent_count h m.stream) ≡ sent_count h m.stream + 1)) is
    (l.may_come.0, counts_itself (nat_eq other.stream other.stream) (sent_count h other.stream) ((Decides-eqb other.stream other.stream).1 refl))
new_number plan h n time caller _ msg l is = absurd is

number_counted : (plan : Plan) (h : List NodeEntry) (msg : Msg) → Valid plan h → WasSent h msg → msg.number ≤ sent_count h msg.stream
number_counted plan [] msg v w = absurd w
number_counted plan (e ∷ h) msg v w = elim w [
  | inl now ↦ let n : (msg.number ≡ sent_count h msg.stream + 1) × (count_after e.entry.event msg.stream (sent_count h msg.stream) ≡ sent_count h msg.stream + 1) = new_number plan h e.node e.entry.time e.entry.caller e.entry.event msg v.0 now in omega (arith, n.0, n.1)
  | inr old ↦
      let a : msg.number ≤ sent_count h msg.stream = number_counted plan h msg v.1 old in
      let b : sent_count h msg.stream ≤ count_after e.entry.event msg.stream (sent_count h msg.stream) = count_grows e.entry.event msg.stream (sent_count h msg.stream) in
      omega arith
]

same_sent : (event : Event) (a b : Msg) → Sends event a → Sends event b → a ≡ b
same_sent (Sent msg) a b p q = sym p ∙ q
same_sent _ a b p q = absurd p

sent_not_again : (plan : Plan) (h : List NodeEntry) (e : NodeEntry) (a b : Msg) → IsLawful plan h e → Valid plan h → Sends e.entry.event a → WasSent h b → IsSameNumber a b → ⊥
sent_not_again plan h e a b l v now old same =
    let n : (a.number ≡ sent_count h a.stream + 1) × (count_after e.entry.event a.stream (sent_count h a.stream) ≡ sent_count h a.stream + 1) = new_number plan h e.node e.entry.time e.entry.caller e.entry.event a l now in
    let c : b.number ≤ sent_count h b.stream = number_counted plan h b v old in
    let d : sent_count h a.stream ≡ sent_count h b.stream = ap (λ (s : ℕ). sent_count h s) same.0 in
    omega (arith, n.0, same.1)

pub sent_once : (plan : Plan) (h : List NodeEntry) (a b : Msg) → Valid plan h → WasSent h a → WasSent h b → IsSameNumber a b → a ≡ b
sent_once plan [] a b v p q same = absurd p
sent_once plan (e ∷ h) a b v p q same = elim p [
  | inl now ↦ elim q [
    | inl too ↦ same_sent e.entry.event a b now too
    | inr old ↦ absurd (sent_not_again plan h e a b v.0 v.1 now old same)
  ]
  | inr before ↦ elim q [
    | inl too ↦ absurd (sent_not_again plan h e b a v.0 v.1 too before (sym same.0, sym same.1))
    | inr old ↦ sent_once plan h a b v.1 before old same
  ]
]

-- ---- callers count for nothing

sent_without : (h : List NodeEntry) (m : Msg) → WasSent h m → WasSent (without_callers h) m
sent_without [] m w = w
sent_without (e ∷ h) m w = elim w [ inl now ↦ inl now | inr old ↦ inr (sent_without h m old) ]

sent_with : (h : List NodeEntry) (m : Msg) → WasSent (without_callers h) m → WasSent h m
sent_with [] m w = w
sent_with (e ∷ h) m w = elim w [ inl now ↦ inl now | inr old ↦ inr (sent_with h m old) ]

stream_without : (h : List NodeEntry) (s : ℕ) → stream_time h s ≡ stream_time (without_callers h) s
stream_without [] s = refl
stream_without (e ∷ h) s = ap (λ (k : ℕ). max k (cond (is_timed e.entry.event s) e.entry.time 0)) (stream_without h s)

last_by : (b : Bool) (e f : Entry) (j k : List Entry) → e.time ≡ f.time → last_time j ≡ last_time k → last_time (cond b (e ∷ j) j) ≡ last_time (cond b (f ∷ k) k)
last_by true e f j k a b = a
last_by false e f j k a b = b

last_without : (h : List NodeEntry) (n : ℕ) → last_time (journal h n) ≡ last_time (journal (without_callers h) n)
last_without [] n = refl
last_without (e ∷ h) n = last_by (nat_eq e.node n) e.entry (record { time = e.entry.time; caller = 0; event = e.entry.event }) (journal h n) (journal (without_callers h) n) refl (last_without h n)

module _ (plan : Plan) (h g : List NodeEntry) (same : without_callers h ≡ without_callers g) where
  stream_same : (s : ℕ) → stream_time h s ≡ stream_time g s
  stream_same s = stream_without h s ∙ ap (λ (k : List NodeEntry). stream_time k s) same ∙ sym (stream_without g s)

  last_same : (n : ℕ) → last_time (journal h n) ≡ last_time (journal g n)
  last_same n = last_without h n ∙ ap (λ (k : List NodeEntry). last_time (journal k n)) same ∙ sym (last_without g n)

  sent_same : (m : Msg) → WasSent g m → WasSent h m
  sent_same m w = sent_with h m (subst (λ (k : List NodeEntry). WasSent k m) (sym same) (sent_without g m w))

  -- the message that comes
  comes : (v : Valid plan h) (a b : Msg) → WasSent h a → WasSent g b → IsSameNumber a b → a ≡ b
  comes v a b p q s = sent_once plan h a b v p (sent_same b q) s

  -- times hear the same
  heard_same : (v : Valid plan h) (n : ℕ) (a b : Event) → HasCause h n a → HasCause g n b → SaySame a b → heard_time (standing plan h) a ≡ heard_time (standing plan g) b
  heard_same v n (Sent a) (Sent b) p q s = stream_same a.stream ∙ ap (λ (k : ℕ). stream_time g k) s.0.0
  heard_same v n (Accepted a at) (Accepted b to) p q s = ap (λ (m : Msg). m.time) (comes v a b p q s.0)
  heard_same v n (Gapped a has) (Gapped b had) p q s = ap (λ (m : Msg). m.time) (comes v a b p q s.0)
  heard_same v n (Attached t at) b p q s = stream_same t ∙ ap (λ (e : Event). heard_time (standing plan g) e) s
  heard_same v n (Idle t) b p q s = stream_same t ∙ ap (λ (e : Event). heard_time (standing plan g) e) s
  heard_same v n (Stale t cut) b p q s = stream_same t ∙ ap (λ (e : Event). heard_time (standing plan g) e) s
  heard_same v n (Down t cause) b p q s = stream_same t ∙ ap (λ (e : Event). heard_time (standing plan g) e) s
  heard_same v n (Wrote client write body after) b p q s = ap (λ (e : Event). heard_time (standing plan g) e) s
  heard_same v n (Missing t number) b p q s = ap (λ (e : Event). heard_time (standing plan g) e) s
  heard_same v n (Answered client o answer at) b p q s = ap (λ (e : Event). heard_time (standing plan g) e) s
  heard_same v n (Behind client needs has) b p q s = ap (λ (e : Event). heard_time (standing plan g) e) s
  heard_same v n (Moved client) b p q s = ap (λ (e : Event). heard_time (standing plan g) e) s
  heard_same v n (Cut at) b p q s = ap (λ (e : Event). heard_time (standing plan g) e) s
  heard_same v n (Dropped o) b p q s = ap (λ (e : Event). heard_time (standing plan g) e) s
  heard_same v n (Conflicts o found) b p q s = ap (λ (e : Event). heard_time (standing plan g) e) s
  heard_same v n (State at cut floor precise) b p q s = ap (λ (e : Event). heard_time (standing plan g) e) s
  heard_same v n a b p q s = cc

  -- and the events are the same
  event_same : (v : Valid plan h) (n t u ca cb : ℕ) (a b : Event) → IsLawful plan h (entry_at n t ca a) → IsLawful plan g (entry_at n u cb b) → t ≡ u → SaySame a b → a ≡ b
  event_same v n t u ca cb (Sent a) (Sent b) l k e s =
      let time : a.time ≡ b.time = l.may_come.1 ∙ e ∙ sym k.may_come.1 in
      ap (λ (m : Msg). Sent m) (
      ap (λ (x : ℕ). let m : Msg = record { time = x; stream = a.stream; number = a.number; kind = a.kind } in m) time
      ∙ ap (λ (x : ℕ). let m : Msg = record { time = b.time; stream = x; number = a.number; kind = a.kind } in m) s.0.0
      ∙ ap (λ (x : ℕ). let m : Msg = record { time = b.time; stream = b.stream; number = x; kind = a.kind } in m) s.0.1
      ∙ ap (λ (x : Kind). let m : Msg = record { time = b.time; stream = b.stream; number = b.number; kind = x } in m) s.1)
  event_same v n t u ca cb (Accepted a at) (Accepted b to) l k e s =
      ap (λ (m : Msg). Accepted m at) (comes v a b l.cause k.cause s.0) ∙ ap (λ (x : List ℕ). Accepted b x) s.1
  event_same v n t u ca cb (Gapped a has) (Gapped b had) l k e s =
      ap (λ (m : Msg). Gapped m has) (comes v a b l.cause k.cause s.0) ∙ ap (λ (x : List ℕ). Gapped b x) s.1
  event_same v n t u ca cb a b l k e s = s

-- two entries of the same node
same_entry : (plan : Plan) (h g : List NodeEntry) (n t u ca cb : ℕ) (a b : Event) → Valid plan h → without_callers h ≡ without_callers g
    → IsLawful plan h (entry_at n t ca a) → IsLawful plan g (entry_at n u cb b) → SaySame a b → (t ≡ u) × (a ≡ b)
same_entry plan h g n t u ca cb a b v same l k s =
    let hs : heard_time (standing plan h) a ≡ heard_time (standing plan g) b = heard_same plan h g same v n a b l.cause k.cause s in
    let ls : last_time (journal h n) ≡ last_time (journal g n) = last_same plan h g same n in
    let e : t ≡ u = omega (arith, l.time, k.time) in
    (e, event_same plan h g same v n t u ca cb a b l k e s)

pub lines_determine : LinesDetermine
lines_determine plan [] [] v w s = refl
lines_determine plan [] (f ∷ g) v w s = absurd s
lines_determine plan (e ∷ h) [] v w s = absurd s
lines_determine plan (e ∷ h) (f ∷ g) v w s =
    let rest : without_callers h ≡ without_callers g = lines_determine plan h g v.1 w.1 s.2 in
    let k : IsLawful plan g (entry_at e.node f.entry.time f.entry.caller f.entry.event) = subst (λ (n : ℕ). IsLawful plan g (entry_at n f.entry.time f.entry.caller f.entry.event)) (sym s.0) w.0 in
    let same = same_entry plan h g e.node e.entry.time f.entry.time e.entry.caller f.entry.caller e.entry.event f.entry.event v.1 rest v.0 k s.1 in
    let node : e.node ≡ f.node = s.0 in
    let time : e.entry.time ≡ f.entry.time = same.0 in
    let event : e.entry.event ≡ f.entry.event = same.1 in
    ap (λ (n : ℕ). entry_at n e.entry.time 0 e.entry.event ∷ without_callers h) node
    ∙ ap (λ (t : ℕ). entry_at f.node t 0 e.entry.event ∷ without_callers h) time
    ∙ ap (λ (x : Event). entry_at f.node f.entry.time 0 x ∷ without_callers h) event
    ∙ ap (λ (r : List NodeEntry). entry_at f.node f.entry.time 0 f.entry.event ∷ r) rest
