-- Only the last interval that begins with a name or before it can have the name.
use Rattle.std.proofs.Common.{◌≡◌, ℕ, zero, suc, ◌+◌, ◌-◌, ◌<◌, ◌≤◌, Bool, true, false, refl, sym, ap, ◌∙◌, arith, inl, inr, List, [], ◌∷◌, length, get_or}
use Rattle.std.specs.Prelude.{◌||◌, ◌&&◌, not, nat_lt}
use Rattle.std.specs.List.Sorted.{IsPartitionedBy}
use Rattle.pr_names.specs.Name.{IsName}
use Rattle.pr_names.specs.Order.{name_lt}
use Rattle.pr_names.specs.Bound.{is_under}
use Rattle.pr_names.specs.Span.{Span, holds}
use Rattle.pr_names.proofs.Place.{place, from_place, to_place}
use Rattle.pr_names.proofs.Places.{le_places, lt_places, lt_tells, span_some}
use Rattle.pr_sets.specs.Spans.{has, IsSet}
use Rattle.pr_sets.proofs.Apart.{Apart, apart_of}
use Rattle.pr_sets.proofs.Same.{holds_not, none_before}

-- ---- the starts rise

start_from : (p : ℕ) (ss : List Span) (i : ℕ) (d : Span) → Apart p ss → i < length ss → p ≤ from_place (get_or ss i d)
start_from p [] i d h lt = absurd (omega arith)
start_from p (s ∷ ss) zero d h lt = h.0
start_from p (s ∷ ss) (suc i) d h lt = omega (arith, h.0, span_some s h.1, start_from (to_place s + 1) ss i d h.2 (omega arith))

starts_rise : (p : ℕ) (ss : List Span) (i j : ℕ) (d : Span) → Apart p ss → i ≤ j → j < length ss → from_place (get_or ss i d) ≤ from_place (get_or ss j d)
starts_rise p [] i j d h le lt = absurd (omega arith)
starts_rise p (s ∷ ss) zero zero d h le lt = omega arith
starts_rise p (s ∷ ss) zero (suc j) d h le lt = omega (arith, span_some s h.1, start_from (to_place s + 1) ss j d h.2 (omega arith))
starts_rise p (s ∷ ss) (suc i) zero d h le lt = absurd (omega arith)
starts_rise p (s ∷ ss) (suc i) (suc j) d h le lt = starts_rise (to_place s + 1) ss i j d h.2 (omega arith) (omega arith)

start_is : (p : ℕ) (ss : List Span) (i : ℕ) (d : Span) → Apart p ss → i < length ss → IsName (get_or ss i d).lo
start_is p [] i d h lt = absurd (omega arith)
start_is p (s ∷ ss) zero d h lt = h.1.lo
start_is p (s ∷ ss) (suc i) d h lt = start_is (to_place s + 1) ss i d h.2 (omega arith)

pub not_true : (b : Bool) → not b ≡ true → b ≡ false
not_true true h = absurd (cc)
not_true false h = refl

pub not_false : (b : Bool) → not b ≡ false → b ≡ true
not_false true h = refl
not_false false h = absurd (cc)

-- no interval that begins by then comes after one that does not
pub begun_first : (ss : List Span) (x : List ℕ) → IsSet ss → IsName x → IsPartitionedBy (λ s. not (name_lt x s.lo)) ss
begun_first ss x set hx i j d le lt h =
    let apart = apart_of ss set in
    let later : place (get_or ss j d).lo ≤ place x = le_places x (get_or ss j d).lo hx (start_is 0 ss j d apart lt) (not_true (name_lt x (get_or ss j d).lo) h) in
    elim (lt_tells x (get_or ss i d).lo hx (start_is 0 ss i d apart (omega arith))) [
      | inl g ↦ absurd (omega (arith, g.1, later, starts_rise 0 ss i j d apart le lt))
      | inr g ↦ ap not g.0
    ]

-- ---- the last that begins by then

no_other : (b : Bool) → (b || false) ≡ b
no_other true = refl
no_other false = refl

-- the first so many begin with the name or before it, and the others after it
pub record Begun (ss : List Span) (x : List ℕ) (k : ℕ) : Type 0 where
  pub most : k ≤ length ss
  pub begun : (i : ℕ) (d : Span) → i < k → name_lt x (get_or ss i d).lo ≡ false
  pub later : (i : ℕ) (d : Span) → k ≤ i → i < length ss → name_lt x (get_or ss i d).lo ≡ true

none_begun : (p : ℕ) (ss : List Span) (x : List ℕ) → Apart p ss → IsName x → Begun ss x 0 → has ss x ≡ false
none_begun p [] x h hx b = refl
none_begun p (s ∷ ss) x h hx b =
    none_before (from_place s) (s ∷ ss) x (omega arith, h.1, h.2) hx (lt_places x s.lo hx h.1.lo (b.later 0 s (omega arith) (omega arith)))

rest_begun : (s : Span) (ss : List Span) (x : List ℕ) (k : ℕ) → Begun (s ∷ ss) x (suc k) → Begun ss x k
rest_begun s ss x k b = record {
  most = omega (arith, b.most);
  begun = λ i d lt. b.begun (suc i) d (omega arith);
  later = λ i d le lt. b.later (suc i) d (omega arith) (omega arith);
}

-- an interval that begins by then has the name where it ends after it
first_holds : (s : Span) (x : List ℕ) → name_lt x s.lo ≡ false → holds s x ≡ is_under x s.hi
first_holds s x e = ap (λ t. not t && is_under x s.hi) e

last_begun : (p : ℕ) (ss : List Span) (x : List ℕ) (k : ℕ) (d : Span) → Apart p ss → IsName x → Begun ss x (suc k) → has ss x ≡ is_under x (get_or ss k d).hi
last_begun p [] x k d h hx b = absurd (omega (arith, b.most))
last_begun p (s ∷ ss) x zero d h hx b =
    ap (λ t. holds s x || t) (none_begun (to_place s + 1) ss x h.2 hx (rest_begun s ss x 0 b))
    ∙ no_other (holds s x)
    ∙ first_holds s x (b.begun 0 s (omega arith))
last_begun p (s ∷ []) x (suc k) d h hx b = absurd (omega (arith, b.most))
last_begun p (s ∷ (t ∷ ts)) x (suc k) d h hx b =
    let next : place t.lo ≤ place x = le_places x t.lo hx h.2.1.lo (b.begun 1 t (omega arith)) in
    holds_not s (t ∷ ts) x h.1 hx (omega (arith, next, h.2.0))
    ∙ last_begun (to_place s + 1) (t ∷ ts) x k d h.2 hx (rest_begun s (t ∷ ts) x (suc k) b)

-- what is answered where none begins by then, and where one does
pub has_none : (ss : List Span) (x : List ℕ) (k : ℕ) → IsSet ss → IsName x → Begun ss x k → k ≤ 0 → false ≡ has ss x
has_none ss x zero set hx b le = sym (none_begun 0 ss x (apart_of ss set) hx b)
has_none ss x (suc k) set hx b le = absurd (omega arith)

pub has_last : (ss : List Span) (x : List ℕ) (k : ℕ) (s d : Span) → IsSet ss → IsName x → Begun ss x k → 0 < k → s ≡ get_or ss (k - 1) d → is_under x s.hi ≡ has ss x
has_last ss x zero s d set hx b lt is = absurd (omega arith)
has_last ss x (suc k) s d set hx b lt is =
    let e : suc k - 1 ≡ k = omega arith in
    ap (λ (u : Span). is_under x u.hi) is
    ∙ ap (λ n. is_under x (get_or ss n d).hi) e
    ∙ sym (last_begun 0 ss x k d (apart_of ss set) hx b)

pub none_lt : (k : ℕ) → k ≤ 0 → nat_lt 0 k ≡ false
none_lt zero h = refl
none_lt (suc k) h = absurd (omega arith)
