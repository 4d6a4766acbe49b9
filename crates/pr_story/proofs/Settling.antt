-- After a settle each of its streams is settled.
use Rattle.std.proofs.Common.{◌≡◌, ℕ, ◌<◌, ◌≤◌, inl, inr, List, [], ◌∷◌, ◌++◌, length, refl, sym, ◌∙◌, ap, subst, arith, max, cond, nat_eq, get_or, zero, suc, reverse}
use Rattle.std.specs.Prelude.{Some, None, Option, Bool, true, false, Contains}
use Rattle.std.proofs.lemmas.Bool.Decides.{nat_tests, Decides-eqb}
use Rattle.std.proofs.lemmas.List.{reverse-reverse, reverse-append}
use Rattle.pr_vectors.specs.Vector.{clock_of, join_of, zero_vector}
use Rattle.pr_vectors.proofs.Vectors.{clock_of-vector_of}
use Rattle.pr_inval.specs.declared.msg.Msg.{Msg}
use Rattle.pr_inval.specs.Points.{to_of}
use Rattle.pr_inval.specs.Standing.{Standing}
use Rattle.pr_story.specs.declared.entry.Entry.{Entry}
use Rattle.pr_story.specs.declared.event.Event.{Event}
use Rattle.pr_story.specs.declared.event.Event.TheVariants.{Wrote, Attached, Sent, Idle, Stale, Accepted, Gapped, Missing, Down, Answered, Behind, Moved, Cut, Dropped, Conflicts, State}
use Rattle.pr_story.specs.History.{Plan, NodeEntry, journal, current_clock, current_vector}
use Rattle.pr_story.specs.Told.{IsStart}
use Rattle.pr_story.specs.Knowledge.{known_gone, first_of, cuts_of}
use Rattle.pr_story.specs.Turns.{standing, position, IsTurn, IdleTurn}
use Rattle.pr_story.specs.Scripts.{AreAttaches, AreSettled, AreRound, AreRounds, HasSent, IsSettle, events_of}
use Rattle.pr_story.specs.Lawful.{IsLawful, Valid}
use Rattle.pr_story.specs.Settling.{IsSettled}
use Rattle.pr_story.proofs.Basics.{clock_zero, clock_at, clock_is, vector_clock}
use Rattle.pr_story.proofs.Making.{join_clock}
use Rattle.pr_story.proofs.Clients.{joined}
use Rattle.pr_story.proofs.Steps.{entry_at}
use Rattle.pr_story.specs.Statements.{SettlesSettle}

-- ---- the shape: each message that is sent is taken next

abbrev pub AreTaken : Option Msg → List Event → Type 0
AreTaken None [] = Unit {0}
AreTaken None (Sent msg ∷ events) = AreTaken (Some msg) events
AreTaken None (Accepted msg at ∷ events) = ⊥
AreTaken None (event ∷ events) = AreTaken None events
AreTaken (Some sent) (Accepted msg at ∷ events) = (msg ≡ sent) × AreTaken None events
AreTaken (Some sent) _ = ⊥

settled_taken : (s : ℕ) (events : List Event) → AreSettled s events → AreTaken None events
settled_taken s (Idle t ∷ []) a = tt
settled_taken s (Sent msg ∷ (Accepted taken at ∷ events)) a = (a.2, settled_taken s events a.3)
settled_taken s (Stale t cut ∷ (Sent msg ∷ (Accepted taken at ∷ events))) a = (a.3, settled_taken s events a.4)
settled_taken s _ a = absurd a

taken_append : (sent : Option Msg) (a b : List Event) → AreTaken sent a → AreTaken None b → AreTaken sent (a ++ b)
taken_append None [] b p q = q
taken_append None (Sent msg ∷ a) b p q = taken_append (Some msg) a b p q
taken_append (Some sent) (Accepted msg at ∷ a) b p q = (p.0, taken_append None a b p.1 q)
taken_append None (Wrote client write body after ∷ a) b p q = taken_append None a b p q
taken_append None (Attached t at ∷ a) b p q = taken_append None a b p q
taken_append None (Idle t ∷ a) b p q = taken_append None a b p q
taken_append None (Stale t cut ∷ a) b p q = taken_append None a b p q
taken_append None (Accepted msg at ∷ a) b p q = absurd p
taken_append None (Gapped msg at ∷ a) b p q = taken_append None a b p q
taken_append None (Missing t number ∷ a) b p q = taken_append None a b p q
taken_append None (Down t cause ∷ a) b p q = taken_append None a b p q
taken_append None (Answered client o answer at ∷ a) b p q = taken_append None a b p q
taken_append None (Behind client needs at ∷ a) b p q = taken_append None a b p q
taken_append None (Moved client ∷ a) b p q = taken_append None a b p q
taken_append None (Cut at ∷ a) b p q = taken_append None a b p q
taken_append None (Dropped o ∷ a) b p q = taken_append None a b p q
taken_append None (Conflicts o found ∷ a) b p q = taken_append None a b p q
taken_append None (State at cut floor precise ∷ a) b p q = taken_append None a b p q
taken_append (Some sent) _ b p q = absurd p

round_taken : (streams : List ℕ) (events : List Event) → AreRound streams events → AreTaken None events
round_taken [] events r = subst (λ (x : List Event). AreTaken None x) (sym r) tt
round_taken (s ∷ streams) events r = subst (λ (x : List Event). AreTaken None x) (sym r.2) (taken_append None r.0 r.1 (settled_taken s r.0 r.3) (round_taken streams r.1 r.4))

-- ---- the last round

not_left : (a b : List Event) → HasSent a → HasSent (a ++ b)
not_left [] b s = absurd s
not_left (Sent msg ∷ a) b s = tt
not_left (Wrote client write body after ∷ a) b s = not_left a b s
not_left (Attached t at ∷ a) b s = not_left a b s
not_left (Idle t ∷ a) b s = not_left a b s
not_left (Stale t cut ∷ a) b s = not_left a b s
not_left (Accepted msg at ∷ a) b s = not_left a b s
not_left (Gapped msg at ∷ a) b s = not_left a b s
not_left (Missing t number ∷ a) b s = not_left a b s
not_left (Down t cause ∷ a) b s = not_left a b s
not_left (Answered client o answer at ∷ a) b s = not_left a b s
not_left (Behind client needs at ∷ a) b s = not_left a b s
not_left (Moved client ∷ a) b s = not_left a b s
not_left (Cut at ∷ a) b s = not_left a b s
not_left (Dropped o ∷ a) b s = not_left a b s
not_left (Conflicts o found ∷ a) b s = not_left a b s
not_left (State at cut floor precise ∷ a) b s = not_left a b s

just_idle : (s : ℕ) (events : List Event) → AreSettled s events → (HasSent events → ⊥) → events ≡ Idle s ∷ []
just_idle s (Idle t ∷ []) a n = ap (λ (x : ℕ). Idle x ∷ []) a
just_idle s (Sent msg ∷ (Accepted taken at ∷ events)) a n = absurd (n tt)
just_idle s (Stale t cut ∷ (Sent msg ∷ (Accepted taken at ∷ events))) a n = absurd (n tt)
just_idle s _ a n = absurd a

abbrev pub idles : List ℕ → List Event
idles [] = []
idles (s ∷ streams) = Idle s ∷ idles streams

last_round : (streams : List ℕ) (events : List Event) → AreRound streams events → (HasSent events → ⊥) → events ≡ idles streams
last_round [] events r n = r
last_round (s ∷ streams) events r n =
    let none : HasSent r.0 → ⊥ = λ a. n (subst (λ (x : List Event). HasSent x) (sym r.2) (not_left r.0 r.1 a)) in
    let first : r.0 ≡ Idle s ∷ [] = just_idle s r.0 r.3 none in
    let is : events ≡ Idle s ∷ r.1 = r.2 ∙ ap (λ (x : List Event). x ++ r.1) first in
    let rest : r.1 ≡ idles streams = last_round streams r.1 r.4 (λ a. n (subst (λ (x : List Event). HasSent x) (sym is) a)) in
    is ∙ ap (λ (x : List Event). Idle s ∷ x) rest

-- a settle is its attaches, some events in which each message is taken, and a last turn of each stream that is idle
append_assoc : (a b c : List Event) → (a ++ b) ++ c ≡ a ++ (b ++ c)
append_assoc [] b c = refl
append_assoc (x ∷ a) b c = ap (λ (y : List Event). x ∷ y) (append_assoc a b c)

rounds_end : (streams : List ℕ) (rounds : ℕ) (events : List Event) → AreRounds streams rounds events → (before : List Event) × AreTaken None before × (events ≡ before ++ idles streams)
rounds_end streams zero events r = ([], tt, last_round streams events r.0 r.1)
rounds_end streams (suc rounds) events r =
    let more : (before : List Event) × AreTaken None before × (r.1 ≡ before ++ idles streams) = rounds_end streams rounds r.1 r.5 in
    (r.0 ++ more.0, taken_append None r.0 more.0 (round_taken streams r.0 r.3) more.1, r.2 ∙ ap (λ (x : List Event). r.0 ++ x) more.2 ∙ sym (append_assoc r.0 more.0 (idles streams)))

attaches_taken : (streams : List ℕ) (events : List Event) → AreAttaches streams events → AreTaken None events
attaches_taken [] events a = subst (λ (x : List Event). AreTaken None x) (sym a) tt
attaches_taken (s ∷ streams) (Attached t at ∷ events) a = attaches_taken streams events a.1
attaches_taken (s ∷ streams) _ a = absurd a

-- ---- lists of entries, the oldest first

abbrev pub after : List NodeEntry → List NodeEntry → List NodeEntry
after h [] = h
after h (e ∷ es) = after (e ∷ h) es

pub after_append : (h a b : List NodeEntry) → after h (a ++ b) ≡ after (after h a) b
after_append h [] b = refl
after_append h (e ∷ a) b = after_append (e ∷ h) a b

append_one : (a : List NodeEntry) (e : NodeEntry) (h : List NodeEntry) → (a ++ (e ∷ [])) ++ h ≡ a ++ (e ∷ h)
append_one [] e h = refl
append_one (x ∷ a) e h = ap (λ (y : List NodeEntry). x ∷ y) (append_one a e h)

pub after_reversed : (h es : List NodeEntry) → after h es ≡ reverse es ++ h
after_reversed h [] = refl
after_reversed h (e ∷ es) = after_reversed (e ∷ h) es ∙ sym (append_one (reverse es) e h) ∙ ap (λ (y : List NodeEntry). y ++ h) (sym (reverse-append (e ∷ []) es))

pub valid_before : (plan : Plan) (h es : List NodeEntry) → Valid plan (after h es) → Valid plan h
valid_before plan h [] v = v
valid_before plan h (e ∷ es) v = (valid_before plan (e ∷ h) es v).1

-- the entries of the events' parts
pub parts : (es : List NodeEntry) (a b : List Event) → events_of es ≡ a ++ b → (first : List NodeEntry) × (rest : List NodeEntry) × (es ≡ first ++ rest) × (events_of first ≡ a) × (events_of rest ≡ b)
parts es [] b e = ([], es, refl, refl, e)
parts [] (x ∷ a) b e = absurd (cc)
parts (y ∷ es) (x ∷ a) b e =
    let head : y.entry.event ≡ x = cc in
    let tail : events_of es ≡ a ++ b = cc in
    let more = parts es a b tail in
    let first : List NodeEntry = more.0 in
    (y ∷ more.0, more.1, ap (λ (z : List NodeEntry). y ∷ z) more.2, ap (λ (z : Event). z ∷ events_of more.0) head ∙ ap (λ (z : List Event). x ∷ z) more.3, more.4)

parts_two : (es : List NodeEntry) (a b c : List Event) → events_of es ≡ a ++ (b ++ c)
    → (x : List NodeEntry) × (y : List NodeEntry) × (z : List NodeEntry) × (es ≡ x ++ (y ++ z)) × (events_of x ≡ a) × (events_of y ≡ b) × (events_of z ≡ c)
parts_two es a b c e =
    let one = parts es a (b ++ c) e in
    let two = parts one.1 b c one.4 in
    (one.0, two.0, two.1, one.2 ∙ ap (λ (z : List NodeEntry). one.0 ++ z) two.2, one.3, two.3, two.4)

abbrev pub IsNeither : Event → Type 0
IsNeither (Sent msg) = ⊥
IsNeither (Accepted msg at) = ⊥
IsNeither _ = Unit {0}

-- ---- what holds from entry to entry

abbrev pub AllAfter : (List NodeEntry → Event → Type 0) → List NodeEntry → List NodeEntry → Type 0
AllAfter Q h [] = Unit {0}
AllAfter Q h (e ∷ es) = Q h e.entry.event × AllAfter Q (e ∷ h) es

module _ (plan : Plan) (s : ℕ) (Q : List NodeEntry → Event → Type 0) (P : List NodeEntry → Option Msg → Type 0)
    (sends : (h : List NodeEntry) (n time caller : ℕ) (msg : Msg) → Valid plan h → IsLawful plan h (entry_at n time caller (Sent msg)) → Q h (Sent msg) → P h None → P (entry_at n time caller (Sent msg) ∷ h) (Some msg))
    (takes : (h : List NodeEntry) (n time caller : ℕ) (msg : Msg) (at : List ℕ) → Valid plan h → IsLawful plan h (entry_at n time caller (Accepted msg at)) → P h (Some msg) → P (entry_at n time caller (Accepted msg at) ∷ h) None)
    (stays : (h : List NodeEntry) (n time caller : ℕ) (event : Event) → Valid plan h → IsLawful plan h (entry_at n time caller event) → IsNeither event → P h None → P (entry_at n time caller event ∷ h) None)
    (begins : (h : List NodeEntry) (n time caller : ℕ) (t : ℕ) (at : List ℕ) → Valid plan h → IsLawful plan h (entry_at n time caller (Attached t at)) → t ≡ s → P (entry_at n time caller (Attached t at) ∷ h) None) where
  one_step : (h : List NodeEntry) (n time caller : ℕ) (event : Event) (o : Option Msg) (rest : List Event) → Valid plan h → IsLawful plan h (entry_at n time caller event) → Q h event → AreTaken o (event ∷ rest) → P h o
      → (next : Option Msg) × AreTaken next rest × P (entry_at n time caller event ∷ h) next
  one_step h n time caller (Sent msg) None rest v l q t p = (Some msg, t, sends h n time caller msg v l q p)
  one_step h n time caller (Accepted msg at) None rest v l q t p = absurd t
  one_step h n time caller (Wrote client write body after) None rest v l q t p = (None, t, stays h n time caller (Wrote client write body after) v l tt p)
  one_step h n time caller (Attached x at) None rest v l q t p = (None, t, stays h n time caller (Attached x at) v l tt p)
  one_step h n time caller (Idle x) None rest v l q t p = (None, t, stays h n time caller (Idle x) v l tt p)
  one_step h n time caller (Stale x cut) None rest v l q t p = (None, t, stays h n time caller (Stale x cut) v l tt p)
  one_step h n time caller (Gapped msg at) None rest v l q t p = (None, t, stays h n time caller (Gapped msg at) v l tt p)
  one_step h n time caller (Missing x number) None rest v l q t p = (None, t, stays h n time caller (Missing x number) v l tt p)
  one_step h n time caller (Down x cause) None rest v l q t p = (None, t, stays h n time caller (Down x cause) v l tt p)
  one_step h n time caller (Answered client o answer at) None rest v l q t p = (None, t, stays h n time caller (Answered client o answer at) v l tt p)
  one_step h n time caller (Behind client needs at) None rest v l q t p = (None, t, stays h n time caller (Behind client needs at) v l tt p)
  one_step h n time caller (Moved client) None rest v l q t p = (None, t, stays h n time caller (Moved client) v l tt p)
  one_step h n time caller (Cut at) None rest v l q t p = (None, t, stays h n time caller (Cut at) v l tt p)
  one_step h n time caller (Dropped o) None rest v l q t p = (None, t, stays h n time caller (Dropped o) v l tt p)
  one_step h n time caller (Conflicts o found) None rest v l q t p = (None, t, stays h n time caller (Conflicts o found) v l tt p)
  one_step h n time caller (State at cut floor precise) None rest v l q t p = (None, t, stays h n time caller (State at cut floor precise) v l tt p)
  one_step h n time caller (Accepted msg at) (Some m) rest v l q t p = (None, t.1, takes h n time caller msg at v l (subst (λ (x : Msg). P h (Some x)) (sym t.0) p))
  one_step h n time caller _ (Some m) rest v l q t p = absurd t

  pub all_steps : (h es : List NodeEntry) (o : Option Msg) → Valid plan (after h es) → AllAfter Q h es → AreTaken o (events_of es) → P h o → P (after h es) None
  all_steps h [] None v q t p = p
  all_steps h [] (Some m) v q t p = absurd t
  all_steps h (e ∷ es) o v q t p =
      let w : Valid plan (e ∷ h) = valid_before plan (e ∷ h) es v in
      let next = one_step h e.node e.entry.time e.entry.caller e.entry.event o (events_of es) w.1 w.0 q.0 t p in
      all_steps (e ∷ h) es next.0 v q.1 next.1 next.2

  first_here : (h : List NodeEntry) (n time caller : ℕ) (event : Event) (t : ℕ) (streams : List ℕ) (rest : List Event) → Valid plan h → IsLawful plan h (entry_at n time caller event) → AreAttaches (t ∷ streams) (event ∷ rest) → t ≡ s → P (entry_at n time caller event ∷ h) None
  first_here h n time caller (Attached x at) t streams rest v l a is = begins h n time caller x at v l (a.0 ∙ is)
  first_here h n time caller _ t streams rest v l a is = absurd a

  later_attaches : (event : Event) (t : ℕ) (streams : List ℕ) (rest : List Event) → AreAttaches (t ∷ streams) (event ∷ rest) → AreAttaches streams rest
  later_attaches (Attached x at) t streams rest a = a.1
  later_attaches _ t streams rest a = absurd a

  pub all_attached : (h es : List NodeEntry) (streams : List ℕ) → Valid plan (after h es) → AllAfter Q h es → AreAttaches streams (events_of es) → (i : ℕ) → i < length streams → get_or streams i s ≡ s → P (after h es) None
  all_attached h es [] v q a i lt is = absurd (omega arith)
  all_attached h [] (t ∷ streams) v q a i lt is = absurd a
  all_attached h (e ∷ es) (t ∷ streams) v q a zero lt is =
      let w : Valid plan (e ∷ h) = valid_before plan (e ∷ h) es v in
      let more : AreAttaches streams (events_of es) = later_attaches e.entry.event t streams (events_of es) a in
      all_steps (e ∷ h) es None v q.1 (attaches_taken streams (events_of es) more) (first_here h e.node e.entry.time e.entry.caller e.entry.event t streams (events_of es) w.1 w.0 a is)
  all_attached h (e ∷ es) (t ∷ streams) v q a (suc i) lt is =
      all_attached (e ∷ h) es streams v q.1 (later_attaches e.entry.event t streams (events_of es) a) i (omega arith) is

-- ---- what arrives

abbrev pub pending : Option Msg → ℕ → ℕ → ℕ
pending None s w = 0
pending (Some msg) s w = cond (nat_eq msg.stream s) (clock_of (to_of msg.kind) w) 0

-- the destination has what the stream sent, but for the message that is under way
abbrev pub Arrives : Plan → ℕ → List NodeEntry → Option Msg → Type 0
Arrives plan s h o = (w : ℕ) → w < 32 → clock_of (position h s) w ≤ max (clock_at h (plan.stream s).destination w) (pending o s w)

sent_arrives : (x p t a d : ℕ) (b : Bool) → x ≡ cond b (max p t) p → p ≤ max a 0 → x ≤ max (max a d) (cond b t 0)
sent_arrives x p t a d true e le = omega arith
sent_arrives x p t a d false e le = omega arith

taken_arrives : (p t a n d : ℕ) (b : Bool) → p ≤ max a (cond b t 0) → (b ≡ true → n ≡ d) → p ≤ max (max a (cond (nat_eq n d) t 0)) 0
taken_arrives p t a n d true le here = let is : n ≡ d = here refl in grind (arith, nat_tests)
taken_arrives p t a n d false le here = omega arith

attached_arrives : (x at p a d : ℕ) (b : Bool) → x ≡ cond b at p → (b ≡ true → at ≤ a) → p ≤ max a 0 → x ≤ max (max a d) 0
attached_arrives x at p a d true e here le = let l : at ≤ a = here refl in omega arith
attached_arrives x at p a d false e here le = omega arith

attach_arrives : (x at p a d : ℕ) (b : Bool) → x ≡ cond b at p → b ≡ true → at ≤ a → x ≤ max (max a d) 0
attach_arrives x at p a d true e here le = omega arith
attach_arrives x at p a d false e here le = cc

pub picks : (b : Bool) (v u : List ℕ) (w : ℕ) → clock_of (cond b v u) w ≡ cond b (clock_of v w) (clock_of u w)
picks true v u w = refl
picks false v u w = refl

module _ (plan : Plan) (s : ℕ) where
  pub start_here : (h : List NodeEntry) (n t : ℕ) (at : List ℕ) → IsStart (plan.sets n) n (journal h n) (plan.stream t).names at → n ≡ (plan.stream t).destination → t ≡ s → (w : ℕ) → w < 32 → clock_of at w ≤ clock_at h (plan.stream s).destination w
  start_here h n t at i placed is w lt =
      let a : clock_of at w ≤ current_clock (journal h n) w = (i.1 w lt).0 in
      let b : current_clock (journal h n) w ≡ clock_at h n w = clock_is h n w in
      let c : clock_at h n w ≡ clock_at h (plan.stream s).destination w = ap (λ (m : ℕ). clock_at h m w) (placed ∙ ap (λ (x : ℕ). (plan.stream x).destination) is) in
      omega arith

  pub arrives_stays : (h : List NodeEntry) (n time caller : ℕ) (event : Event) → Valid plan h → IsLawful plan h (entry_at n time caller event) → IsNeither event → Arrives plan s h None → Arrives plan s (entry_at n time caller event ∷ h) None
  arrives_stays h n time caller (Attached t at) v l neither p w lt =
      attached_arrives (clock_of (cond (nat_eq t s) at (position h s)) w) (clock_of at w) (clock_of (position h s) w) (clock_at h (plan.stream s).destination w) (cond (nat_eq n (plan.stream s).destination) 0 0) (nat_eq t s)
      (picks (nat_eq t s) at (position h s) w) (λ is. start_here h n t at l.may_come l.placed ((Decides-eqb t s).0 is) w lt) (p w lt)
  arrives_stays h n time caller (Sent msg) v l neither p w lt = absurd neither
  arrives_stays h n time caller (Accepted msg at) v l neither p w lt = absurd neither
  arrives_stays h n time caller _ v l neither p w lt = let old : clock_of (position h s) w ≤ max (clock_at h (plan.stream s).destination w) 0 = p w lt in omega arith

  pub arrives_sends : (h : List NodeEntry) (n time caller : ℕ) (msg : Msg) → Valid plan h → IsLawful plan h (entry_at n time caller (Sent msg)) → Unit {0} → Arrives plan s h None → Arrives plan s (entry_at n time caller (Sent msg) ∷ h) (Some msg)
  arrives_sends h n time caller msg v l q p w lt =
      sent_arrives (clock_of (cond (nat_eq msg.stream s) (join_of (position h s) (to_of msg.kind)) (position h s)) w) (clock_of (position h s) w) (clock_of (to_of msg.kind) w) (clock_at h (plan.stream s).destination w) (cond (nat_eq n (plan.stream s).destination) 0 0) (nat_eq msg.stream s)
      (joined (nat_eq msg.stream s) (position h s) (to_of msg.kind) w lt) (p w lt)

  pub arrives_takes : (h : List NodeEntry) (n time caller : ℕ) (msg : Msg) (at : List ℕ) → Valid plan h → IsLawful plan h (entry_at n time caller (Accepted msg at)) → Arrives plan s h (Some msg) → Arrives plan s (entry_at n time caller (Accepted msg at) ∷ h) None
  arrives_takes h n time caller msg at v l p w lt =
      taken_arrives (clock_of (position h s) w) (clock_of (to_of msg.kind) w) (clock_at h (plan.stream s).destination w) n (plan.stream s).destination (nat_eq msg.stream s) (p w lt)
      (λ is. l.placed ∙ ap (λ (x : ℕ). (plan.stream x).destination) ((Decides-eqb msg.stream s).0 is))

  pub arrives_begins : (h : List NodeEntry) (n time caller : ℕ) (t : ℕ) (at : List ℕ) → Valid plan h → IsLawful plan h (entry_at n time caller (Attached t at)) → t ≡ s → Arrives plan s (entry_at n time caller (Attached t at) ∷ h) None
  arrives_begins h n time caller t at v l is w lt =
      attach_arrives (clock_of (cond (nat_eq t s) at (position h s)) w) (clock_of at w) (clock_of (position h s) w) (clock_at h (plan.stream s).destination w) (cond (nat_eq n (plan.stream s).destination) 0 0) (nat_eq t s)
      (picks (nat_eq t s) at (position h s) w) ((Decides-eqb t s).1 is) (start_here h n t at l.may_come l.placed is w lt)

anything : (h es : List NodeEntry) → AllAfter (λ g e. Unit {0}) h es
anything h [] = tt
anything h (e ∷ es) = (tt, anything (e ∷ h) es)

-- ---- what stays idle

first_none : {X : Type 0} (o : Option X) → first_of o None ≡ o
first_none None = refl
first_none (Some x) = refl

module _ (plan : Plan) (s : ℕ) where
  idle_cond : (b : Bool) (m time caller t : ℕ) (j : List Entry) (session : Standing) → IsTurn m j session IdleTurn → IsTurn m (cond b (record { time = time; caller = caller; event = Idle t } ∷ j) j) session IdleTurn
  idle_cond false m time caller t j session i = i
  idle_cond true m time caller t j session i = (
    λ w lt.
        let e : clock_of (join_of (cuts_of j) zero_vector) w ≡ max (clock_of (cuts_of j) w) (clock_of zero_vector w) = join_clock (cuts_of j) zero_vector w lt in
        let z : ◌≡◌ {A = ℕ} (clock_of zero_vector w) 0 = clock_zero w in
        let a : clock_of (cuts_of j) w ≤ clock_of session.position w = i.0 w lt in omega arith,
    λ w lt.
        let e = clock_of-vector_of (λ (x : ℕ). max (current_clock j x) 0) w lt in
        let f = clock_of-vector_of (current_clock j) w lt in
        let a : clock_of (current_vector j) w ≤ clock_of session.position w = i.1 w lt in omega arith,
    λ bodies o p bytes b. i.2 bodies o p bytes (
      b.0,
      (elim b.1.0 [ inl never ↦ absurd never | inr old ↦ old ], λ q named. b.1.1 q (inr named)),
      sym (first_none (known_gone j o p)) ∙ b.2,
      b.3,
      b.4,
    ),
  )

  abbrev pub Rests : List NodeEntry → Type 0
  Rests h = IsTurn (plan.stream s).source (journal h (plan.stream s).source) (standing plan h s) IdleTurn

  rests_more : (h : List NodeEntry) (n time caller t : ℕ) → Rests h → Rests (entry_at n time caller (Idle t) ∷ h)
  rests_more h n time caller t i = idle_cond (nat_eq n (plan.stream s).source) (plan.stream s).source time caller t (journal h (plan.stream s).source) (standing plan h s) i

  rests_step : (h : List NodeEntry) (n time caller : ℕ) (event : Event) (t : ℕ) → event ≡ Idle t → Rests h → Rests (entry_at n time caller event ∷ h)
  rests_step h n time caller event t is i = subst (λ (x : Event). Rests (entry_at n time caller x ∷ h)) (sym is) (rests_more h n time caller t i)

  rests_on : (h es : List NodeEntry) (streams : List ℕ) → events_of es ≡ idles streams → Rests h → Rests (after h es)
  rests_on h [] streams e i = i
  rests_on h (x ∷ es) [] e i = absurd (cc)
  rests_on h (x ∷ es) (t ∷ streams) e i =
      let head : x.entry.event ≡ Idle t = cc in
      let tail : events_of es ≡ idles streams = cc in
      rests_on (x ∷ h) es streams tail (rests_step h x.node x.entry.time x.entry.caller x.entry.event t head i)

  rests_here : (h : List NodeEntry) (n time caller : ℕ) (event : Event) (t : ℕ) → IsLawful plan h (entry_at n time caller event) → event ≡ Idle t → t ≡ s → Rests (entry_at n time caller event ∷ h)
  rests_here h n time caller event t l e is =
      let k : IsLawful plan h (entry_at n time caller (Idle s)) = subst (λ (x : Event). IsLawful plan h (entry_at n time caller x)) (e ∙ ap (λ (x : ℕ). Idle x) is) l in
      let turn : IsTurn n (journal h n) (standing plan h s) IdleTurn = k.may_come in
      rests_step h n time caller event t e (subst (λ (m : ℕ). IsTurn m (journal h m) (standing plan h s) IdleTurn) k.placed turn)

  pub all_rest : (h es : List NodeEntry) (streams : List ℕ) → Valid plan (after h es) → events_of es ≡ idles streams → (i : ℕ) → i < length streams → get_or streams i s ≡ s → Rests (after h es)
  all_rest h es [] v e i lt is = absurd (omega arith)
  all_rest h [] (t ∷ streams) v e i lt is = absurd (cc)
  all_rest h (x ∷ es) (t ∷ streams) v e zero lt is =
      let head : x.entry.event ≡ Idle t = cc in
      let tail : events_of es ≡ idles streams = cc in
      let w : Valid plan (x ∷ h) = valid_before plan (x ∷ h) es v in
      rests_on (x ∷ h) es streams tail (rests_here h x.node x.entry.time x.entry.caller x.entry.event t w.0 head is)
  all_rest h (x ∷ es) (t ∷ streams) v e (suc i) lt is =
      let tail : events_of es ≡ idles streams = cc in
      all_rest (x ∷ h) es streams v tail i (omega arith) is

pub idles_taken : (streams : List ℕ) → AreTaken None (idles streams)
idles_taken [] = tt
idles_taken (s ∷ streams) = idles_taken streams

-- ---- a settle as three lists of entries

pub record Settled (plan : Plan) (h es : List NodeEntry) (streams : List ℕ) : Type 0 where
  pub attaches : List NodeEntry
  pub turns : List NodeEntry
  pub last : List NodeEntry
  pub all : es ≡ attaches ++ (turns ++ last)
  pub attached : AreAttaches streams (events_of attaches)
  pub taken : AreTaken None (events_of turns)
  pub idle : events_of last ≡ idles streams

pub settle_parts : (plan : Plan) (h es : List NodeEntry) (streams : List ℕ) → IsSettle streams (events_of es) → Settled plan h es streams
settle_parts plan h es streams i =
    let r : (before : List Event) × AreTaken None before × (i.1 ≡ before ++ idles streams) = rounds_end streams i.2 i.1 i.5 in
    let p = parts_two es i.0 r.0 (idles streams) (i.3 ∙ ap (λ (x : List Event). i.0 ++ x) r.2) in
    record {
      attaches = p.0;
      turns = p.1;
      last = p.2;
      all = p.3;
      attached = subst (λ (x : List Event). AreAttaches streams x) (sym p.4) i.4;
      taken = subst (λ (x : List Event). AreTaken None x) (sym p.5) r.1;
      idle = p.6;
    }

settled_after : (plan : Plan) (h : List NodeEntry) (es : List NodeEntry) (streams : List ℕ) → Valid plan (after h es) → IsSettle streams (events_of es) → (s : ℕ) → Contains streams s → IsSettled plan (after h es) s
settled_after plan h es streams v i s c =
    let p : Settled plan h es streams = settle_parts plan h es streams i in
    let a : List NodeEntry = after h p.attaches in
    let b : List NodeEntry = after a p.turns in
    let same : after h es ≡ after b p.last = ap (λ (x : List NodeEntry). after h x) p.all ∙ after_append h p.attaches (p.turns ++ p.last) ∙ after_append a p.turns p.last in
    let vc : Valid plan (after b p.last) = subst (λ (x : List NodeEntry). Valid plan x) same v in
    let vb : Valid plan b = valid_before plan b p.last vc in
    let va : Valid plan a = valid_before plan a p.turns vb in
    let one : Arrives plan s a None = all_attached plan s (λ g e. Unit {0}) (Arrives plan s) (arrives_sends plan s) (arrives_takes plan s) (arrives_stays plan s) (arrives_begins plan s) h p.attaches streams va (anything h p.attaches) p.attached c.0 c.1 c.2 in
    let two : Arrives plan s b None = all_steps plan s (λ g e. Unit {0}) (Arrives plan s) (arrives_sends plan s) (arrives_takes plan s) (arrives_stays plan s) (arrives_begins plan s) a p.turns None vb (anything a p.turns) p.taken one in
    let all : Arrives plan s (after b p.last) None = all_steps plan s (λ g e. Unit {0}) (Arrives plan s) (arrives_sends plan s) (arrives_takes plan s) (arrives_stays plan s) (arrives_begins plan s) b p.last None vc (anything b p.last) (subst (λ (x : List Event). AreTaken None x) (sym p.idle) (idles_taken streams)) two in
    let rest : Rests plan s (after b p.last) = all_rest plan s b p.last streams vc p.idle c.0 c.1 c.2 in
    let both : IsSettled plan (after b p.last) s = (
      rest,
      λ w lt.
          let x : clock_of (current_vector (journal (after b p.last) (plan.stream s).source)) w ≤ clock_of (position (after b p.last) s) w = rest.1 w lt in
          let y : clock_of (position (after b p.last) s) w ≤ max (clock_at (after b p.last) (plan.stream s).destination w) 0 = all w lt in
          let z : clock_of (current_vector (journal (after b p.last) (plan.stream s).destination)) w ≡ clock_at (after b p.last) (plan.stream s).destination w = vector_clock (after b p.last) (plan.stream s).destination w lt in
          omega arith,
    ) in
    subst (λ (x : List NodeEntry). IsSettled plan x s) (sym same) both

pub settles_settle : SettlesSettle
settles_settle plan h later streams v i s c =
    let same : after h (reverse later) ≡ later ++ h = after_reversed h (reverse later) ∙ ap (λ (x : List NodeEntry). x ++ h) (reverse-reverse later) in
    subst (λ (x : List NodeEntry). IsSettled plan x s) same (settled_after plan h (reverse later) streams (subst (λ (x : List NodeEntry). Valid plan x) (sym same) v) i s c)
