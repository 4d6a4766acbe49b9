-- Parts of a settle, one after another.
use Rattle.std.proofs.Common.{◌≡◌, ◌⊎◌, ℕ, zero, suc, ◌+◌, ◌<◌, ◌≤◌, List, [], ◌∷◌, ◌++◌, Result, Ok, Err, IsErrAnd, inl, inr, refl, sym, ◌∙◌, ap, subst, reverse, arith}
use Rattle.std.specs.Prelude.{true, false, Bool, ◌||◌, filter}
use Rattle.std.specs.List.{range_with_len}
use Rattle.std.proofs.lemmas.List.{append-nil, append_assoc, reverse-append}
use Rattle.std.proofs.lemmas.List.Elements.{filter-append}
use Rattle.std.proofs.lemmas.Bool.{cases_lt}
use Rattle.std.proofs.lemmas.Result.{err_from_is_err_and}
use Rattle.pr_inval.specs.declared.node_fault.NodeFault.{NodeFault}
use Rattle.pr_story.specs.declared.event.Event.{Event}
use Rattle.pr_story.specs.declared.event.Event.TheVariants.{Sent}
use Rattle.pr_story.specs.History.{NodeEntry}
use Rattle.pr_story.specs.Remaining.{left_to_send}
use Rattle.pr_story.specs.Scripts.{HasSent, events_of}
use Rattle.pr_story.specs.Settling.{IsInTime}
use Rattle.pr_sim.specs.Commands.{IsCause}
use Rattle.pr_sim.specs.Running.{IsRunning, Tells, below}
use Rattle.pr_story.specs.Counts.{Declared}
use Rattle.pr_sim.specs.Settles.{AreInTime, SettlesOn, Lessens, MakesPart, SaysSent}
use Rattle.pr_sim.specs.declared.engine.Engine.{Engine}

-- ---- lists

pub events_append : (a b : List NodeEntry) → events_of (a ++ b) ≡ events_of a ++ events_of b
events_append [] b = refl
events_append (e ∷ a) b = ap (λ (xs : List Event). e.entry.event ∷ xs) (events_append a b)

-- of two parts, each with its newest entry first
pub events_both : (a b : List NodeEntry) → events_of (reverse (b ++ a)) ≡ events_of (reverse a) ++ events_of (reverse b)
events_both a b = ap (λ (xs : List NodeEntry). events_of xs) (reverse-append b a) ∙ events_append (reverse a) (reverse b)

range_last : (a n : ℕ) → range_with_len a (suc n) ≡ range_with_len a n ++ (a + n) ∷ []
range_last a zero = let e : a ≡ a + 0 = omega arith in ap (λ (i : ℕ). i ∷ []) e
range_last a (suc n) =
    let e : (a + 1) + n ≡ a + suc n = omega arith in
    ap (λ (xs : List ℕ). a ∷ xs) (range_last (a + 1) n ∙ ap (λ (i : ℕ). range_with_len (a + 1) n ++ i ∷ []) e)

below_last : (n : ℕ) → below (suc n) ≡ below n ++ n ∷ []
below_last n = let e : 0 + n ≡ n = omega arith in range_last 0 n ∙ ap (λ (i : ℕ). range_with_len 0 n ++ i ∷ []) e

pub below_more : (n : ℕ) → below (n + 1) ≡ below n ++ n ∷ []
below_more n = let e : n + 1 ≡ suc n = omega arith in ap (λ (i : ℕ). below i) e ∙ below_last n

-- the numbers below n with i among them
pub below_parts : (n i : ℕ) → i < n → (rest : List ℕ) × (below n ≡ (below i ++ i ∷ []) ++ rest)
below_parts zero i lt = absurd (omega arith)
below_parts (suc n) i lt = by (cases_lt i n) (λ within. below_parts n i within)
  where
    by : (i < n) ⊎ (n ≤ i) → (i < n → (rest : List ℕ) × (below n ≡ (below i ++ i ∷ []) ++ rest)) → (rest : List ℕ) × (below (suc n) ≡ (below i ++ i ∷ []) ++ rest)
    by (inl within) before =
        let p = before within in
        (p.0 ++ n ∷ [], below_last n ∙ ap (λ (xs : List ℕ). xs ++ n ∷ []) p.1 ∙ append_assoc (below i ++ i ∷ []) p.0 (n ∷ []))
    by (inr past) before =
        let e : n ≡ i = omega arith in
        ([], ap (λ (k : ℕ). below (suc k)) e ∙ below_last i ∙ sym (append-nil (below i ++ i ∷ [])))

pub filter_more : (attached : ℕ → Bool) (n : ℕ) → filter attached (below (n + 1)) ≡ filter attached (below n) ++ filter attached (n ∷ [])
filter_more attached n = ap (λ (xs : List ℕ). filter attached xs) (below_more n) ∙ filter-append attached (below n) (n ∷ [])

pub filter_parts : (attached : ℕ → Bool) (n i : ℕ) → i < n → (rest : List ℕ) × (filter attached (below n) ≡ (filter attached (below i) ++ filter attached (i ∷ [])) ++ rest)
filter_parts attached n i lt =
    let p = below_parts n i lt in (
      filter attached p.0,
      ap (λ (xs : List ℕ). filter attached xs) p.1 ∙ filter-append attached (below i ++ i ∷ []) p.0
          ∙ ap (λ (xs : List ℕ). xs ++ filter attached p.0) (filter-append attached (below i) (i ∷ [])),
    )

-- ---- whether something was sent

sent_head : (event : Event) (a b : List Event) → (HasSent a → HasSent (a ++ b)) → HasSent (event ∷ a) → HasSent (event ∷ (a ++ b))
sent_head (Sent msg) a b f s = tt
sent_head _ a b f s = f s

sent_left : (a b : List Event) → HasSent a → HasSent (a ++ b)
sent_left [] b s = absurd s
sent_left (event ∷ a) b s = sent_head event a b (sent_left a b) s

sent_behind : (event : Event) (a : List Event) → HasSent a → HasSent (event ∷ a)
sent_behind (Sent msg) a s = tt
sent_behind _ a s = s

sent_right : (a b : List Event) → HasSent b → HasSent (a ++ b)
sent_right [] b s = s
sent_right (event ∷ a) b s = sent_behind event (a ++ b) (sent_right a b s)

sent_first : (event : Event) (a b : List Event) → (HasSent (a ++ b) → HasSent a ⊎ HasSent b) → HasSent (event ∷ (a ++ b)) → HasSent (event ∷ a) ⊎ HasSent b
sent_first (Sent msg) a b f s = inl tt
sent_first _ a b f s = f s

sent_in : (a b : List Event) → HasSent (a ++ b) → HasSent a ⊎ HasSent b
sent_in [] b s = inr s
sent_in (event ∷ a) b s = sent_first event a b (sent_in a b) s

sends_one : (event : Event) (a : List Event) → HasSent a ⊎ (HasSent a → ⊥) → HasSent (event ∷ a) ⊎ (HasSent (event ∷ a) → ⊥)
sends_one (Sent msg) a s = inl tt
sends_one _ a s = s

pub sends_or_not : (a : List Event) → HasSent a ⊎ (HasSent a → ⊥)
sends_or_not [] = inr (λ s. s)
sends_or_not (event ∷ a) = sends_one event a (sends_or_not a)

says_both : (x y : Bool) (a b : List Event) → SaysSent x a → SaysSent y b → SaysSent (x || y) (a ++ b)
says_both true y a b p q = sent_left a b p
says_both false true a b p q = sent_right a b q
says_both false false a b p q = λ s. elim (sent_in a b s) [ inl left ↦ p left | inr right ↦ q right ]

-- ---- what goes on

less_both : (streams : List ℕ) (h a b : List NodeEntry) (x y : Bool) → Lessens streams h x a → Lessens streams a y b → Lessens streams h (x || y) b
less_both streams h a b true true p q = let l : left_to_send a streams < left_to_send h streams = p in let k : left_to_send b streams < left_to_send a streams = q in omega arith
less_both streams h a b true false p q = let l : left_to_send a streams < left_to_send h streams = p in let k : left_to_send b streams ≤ left_to_send a streams = q in omega arith
less_both streams h a b false true p q = let l : left_to_send a streams ≤ left_to_send h streams = p in let k : left_to_send b streams < left_to_send a streams = q in omega arith
less_both streams h a b false false p q = let l : left_to_send a streams ≤ left_to_send h streams = p in let k : left_to_send b streams ≤ left_to_send a streams = q in omega arith

pub goes_both : (d : Declared) (h a b : List NodeEntry) (x y : Bool) → SettlesOn d h a x → SettlesOn d (a ++ h) b y → SettlesOn d h (b ++ a) (x || y)
goes_both d h a b x y p q =
    let all : (b ++ a) ++ h ≡ b ++ (a ++ h) = append_assoc b a h in
    record {
      says = subst (λ (es : List Event). SaysSent (x || y) es) (sym (events_both a b)) (says_both x y (events_of (reverse a)) (events_of (reverse b)) p.says q.says);
      in_time = λ s t. subst (λ (xs : List NodeEntry). IsInTime d.plan xs s) (sym all) (q.in_time s (p.in_time s t));
      less = subst (λ (xs : List NodeEntry). Lessens (below d.counts.streams) h (x || y) xs) (sym all) (less_both (below d.counts.streams) h (a ++ h) (b ++ (a ++ h)) x y p.less q.less);
    }

pub goes_nowhere : (d : Declared) (h : List NodeEntry) → SettlesOn d h [] false
goes_nowhere d h = record { says = λ s. s; in_time = λ s t. t; less = let l : left_to_send h (below d.counts.streams) ≤ left_to_send h (below d.counts.streams) = omega arith in l }

pub still_in_time : (d : Declared) (attached : ℕ → Bool) (h new : List NodeEntry) (sent : Bool) → SettlesOn d h new sent → AreInTime d attached h → AreInTime d attached (new ++ h)
still_in_time d attached h new sent on all s known is = on.in_time s (all s known is)

-- ---- one part behind another

module _ (d : Declared) (attached : ℕ → Bool) (h : List NodeEntry) (f : Engine) (P Q R : Bool → List Event → Type 0) where
  pub then_more : ((x y : Bool) (a b : List Event) → P x a → Q y b → SaysSent y b → R (x || y) (a ++ b))
      → (a : List NodeEntry) (x y : Bool) → P x (events_of (reverse a)) → SettlesOn d h a x → MakesPart Q d attached (a ++ h) f (Ok y) → MakesPart R d attached h f (Ok (x || y))
  then_more join a x y p on (b, running, q, more) = (
    b ++ a,
    subst (λ (xs : List NodeEntry). IsRunning d attached xs f) (sym (append_assoc b a h)) running,
    subst (λ (es : List Event). R (x || y) es) (sym (events_both a b)) (join x y (events_of (reverse a)) (events_of (reverse b)) p q more.says),
    goes_both d h a b x y on more,
  )

  pub then_start : ((x y : Bool) (a b : List Event) → P x a → Q y b → (rest : List Event) × (z : Bool) × R z (a ++ (b ++ rest)))
      → (a : List NodeEntry) (x : Bool) (fault : NodeFault) → P x (events_of (reverse a)) → MakesPart Q d attached (a ++ h) f (Err fault) → MakesPart R d attached h f (Err fault)
  then_start join a x fault p (b, tells, (rest, y, q), cause) =
      let more = join x y (events_of (reverse a)) (events_of (reverse b) ++ rest) p q in
      let first : List Event = events_of (reverse a) in
      let next : List Event = events_of (reverse b) in
      let same : first ++ ((next ++ rest) ++ more.0) ≡ events_of (reverse (b ++ a)) ++ (rest ++ more.0) =
      ap (λ (es : List Event). first ++ es) (append_assoc next rest more.0) ∙ sym (append_assoc first next (rest ++ more.0))
      ∙ ap (λ (es : List Event). es ++ (rest ++ more.0)) (sym (events_both a b)) in (
        b ++ a,
        subst (λ (xs : List NodeEntry). Tells d xs f) (sym (append_assoc b a h)) tells,
        (rest ++ more.0, more.1, subst (λ (es : List Event). R more.1 es) same more.2),
        subst (λ (xs : List NodeEntry). IsCause xs fault) (sym (append_assoc b a h)) cause,
      )

-- ---- faults

-- what holds of the fault of a call holds of the answer
pub fails : {X : Type 0} (R : Result X NodeFault → Type 0) (Q : NodeFault → Type 0) (r : Result X NodeFault) (was : NodeFault) → IsErrAnd r Q → ((fault : NodeFault) → Q fault → fault ≡ was) → R (Err was) → R r
fails {X = X} R Q r was err same p =
    let e = err_from_is_err_and r err in
    subst (λ (x : Result X NodeFault). R x) (sym e.1) (subst (λ (fault : NodeFault). R (Err fault)) (sym (same e.0 e.2)) p)
