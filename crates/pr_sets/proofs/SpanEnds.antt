-- Intervals that are joined, shared and made.
use Rattle.std.proofs.Common.{◌≡◌, ℕ, ◌≤◌, ◌⊎◌, false, true, refl, sym, ap, ◌∙◌, arith, inl, inr, List, [], ◌∷◌}
use Rattle.std.specs.Prelude.{◌||◌, ◌&&◌, min, max, Option, Some, None, IfSome, IsTrue, is_some}
use Rattle.std.specs.Option.{option_to_list}
use Rattle.pr_names.specs.Name.{IsName}
use Rattle.pr_names.specs.Bound.{IsBound, bound_lt, is_under}
use Rattle.pr_names.specs.Order.{name_lt}
use Rattle.pr_names.specs.Span.{Span, IsSpan, holds}
use Rattle.pr_names.specs.declared.bound.Bound.{Bound}
use Rattle.pr_names.proofs.Place.{place, bound_place, from_place, to_place}
use Rattle.pr_names.proofs.Places.{between, between_tells, bound_lt_places, bound_lt_tells, holds_is, lt_tells, places_under, same_place, span_of, span_some, under_tells}
use Rattle.pr_sets.specs.Ends.{greater_bound, greater_name, joined, later_part, lesser_name, span_list}
use Rattle.pr_sets.specs.Joining.{grown}
use Rattle.pr_sets.specs.Spans.{has}
use Rattle.pr_sets.proofs.Between.{grows, joins, shares}
use Rattle.pr_sets.proofs.Lists.{or_none}
use Rattle.pr_sets.proofs.Parts.{lesser_bound, shared_list}

pub lesser_name_place : (a b : List ℕ) → IsName a → IsName b → place (lesser_name a b) ≡ min (place a) (place b)
lesser_name_place a b ha hb = elim (lt_tells b a hb ha) [ inl g ↦ rw g.0 (omega (arith, g.1)) | inr g ↦ rw g.0 (omega (arith, g.1)) ]

pub greater_name_place : (a b : List ℕ) → IsName a → IsName b → place (greater_name a b) ≡ max (place a) (place b)
greater_name_place a b ha hb = elim (lt_tells b a hb ha) [ inl g ↦ rw g.0 (omega (arith, g.1)) | inr g ↦ rw g.0 (omega (arith, g.1)) ]

pub lesser_bound_place : (a b : Bound) → IsBound a → IsBound b → bound_place (lesser_bound a b) ≡ min (bound_place a) (bound_place b)
lesser_bound_place a b ha hb = elim (bound_lt_tells b a hb ha) [ inl g ↦ rw g.0 (omega (arith, g.1)) | inr g ↦ rw g.0 (omega (arith, g.1)) ]

pub greater_bound_place : (a b : Bound) → IsBound a → IsBound b → bound_place (greater_bound a b) ≡ max (bound_place a) (bound_place b)
greater_bound_place a b ha hb = elim (bound_lt_tells b a hb ha) [ inl g ↦ rw g.0 (omega (arith, g.1)) | inr g ↦ rw g.0 (omega (arith, g.1)) ]

lesser_name_is : (a b : List ℕ) → IsName a → IsName b → IsName (lesser_name a b)
lesser_name_is a b ha hb = elim (lt_tells b a hb ha) [ inl g ↦ rw g.0 hb | inr g ↦ rw g.0 ha ]

pub greater_name_is : (a b : List ℕ) → IsName a → IsName b → IsName (greater_name a b)
greater_name_is a b ha hb = elim (lt_tells b a hb ha) [ inl g ↦ rw g.0 ha | inr g ↦ rw g.0 hb ]

pub lesser_bound_is : (a b : Bound) → IsBound a → IsBound b → IsBound (lesser_bound a b)
lesser_bound_is a b ha hb = elim (bound_lt_tells b a hb ha) [ inl g ↦ rw g.0 hb | inr g ↦ rw g.0 ha ]

greater_bound_is : (a b : Bound) → IsBound a → IsBound b → IsBound (greater_bound a b)
greater_bound_is a b ha hb = elim (bound_lt_tells b a hb ha) [ inl g ↦ rw g.0 ha | inr g ↦ rw g.0 hb ]

-- ---- joined

pub from_joined : (s t : Span) → IsSpan s → IsSpan t → from_place (joined s t) ≡ min (from_place s) (from_place t)
unfolding joined
from_joined s t hs ht = lesser_name_place s.lo t.lo hs.lo ht.lo

pub to_joined : (s t : Span) → IsSpan s → IsSpan t → to_place (joined s t) ≡ max (to_place s) (to_place t)
unfolding joined
to_joined s t hs ht = greater_bound_place s.hi t.hi hs.hi ht.hi

joined_lo : (s t : Span) → IsSpan s → IsSpan t → IsName (joined s t).lo
unfolding joined
joined_lo s t hs ht = lesser_name_is s.lo t.lo hs.lo ht.lo

joined_hi : (s t : Span) → IsSpan s → IsSpan t → IsBound (joined s t).hi
unfolding joined
joined_hi s t hs ht = greater_bound_is s.hi t.hi hs.hi ht.hi

pub joined_is : (s t : Span) → IsSpan s → IsSpan t → IsSpan (joined s t)
joined_is s t hs ht =
    span_of (joined s t) (joined_lo s t hs ht) (joined_hi s t hs ht)
    (omega (arith, from_joined s t hs ht, to_joined s t hs ht, span_some s hs, span_some t ht))

pub joined_holds : (s t : Span) (x : List ℕ) → IsSpan s → IsSpan t → IsName x → from_place t ≤ to_place s → from_place s ≤ to_place t → holds (joined s t) x ≡ (holds s x || holds t x)
joined_holds s t x hs ht hx st ts =
    holds_is (joined s t) x (joined_is s t hs ht) hx
    ∙ ap (λ n. between n (to_place (joined s t)) (place x)) (from_joined s t hs ht)
    ∙ ap (λ n. between (min (from_place s) (from_place t)) n (place x)) (to_joined s t hs ht)
    ∙ joins (from_place s) (to_place s) (from_place t) (to_place t) (place x) (span_some s hs) (span_some t ht) st ts
    ∙ ap (λ b. b || between (from_place t) (to_place t) (place x)) (sym (holds_is s x hs hx))
    ∙ ap (λ b. holds s x || b) (sym (holds_is t x ht hx))

-- ---- grown

grown_to : (t s : Span) → IsSpan t → IsSpan s → to_place (grown t s) ≡ max (to_place t) (to_place s)
grown_to t s ht hs = elim (bound_lt_tells t.hi s.hi ht.hi hs.hi) [ inl g ↦ rw g.0 (omega (arith, g.1)) | inr g ↦ rw g.0 (omega (arith, g.1)) ]

grown_hi : (t s : Span) → IsSpan t → IsSpan s → IsBound (grown t s).hi
grown_hi t s ht hs = elim (bound_lt_tells t.hi s.hi ht.hi hs.hi) [ inl g ↦ rw g.0 hs.hi | inr g ↦ rw g.0 ht.hi ]

pub grown_is : (t s : Span) → IsSpan t → IsSpan s → IsSpan (grown t s)
grown_is t s ht hs = span_of (grown t s) ht.lo (grown_hi t s ht hs) (omega (arith, grown_to t s ht hs, span_some t ht))

pub grown_holds : (t s : Span) (x : List ℕ) → IsSpan t → IsSpan s → IsName x → from_place t ≤ from_place s → from_place s ≤ to_place t → holds (grown t s) x ≡ (holds t x || holds s x)
grown_holds t s x ht hs hx le st =
    holds_is (grown t s) x (grown_is t s ht hs) hx
    ∙ ap (λ n. between (from_place t) n (place x)) (grown_to t s ht hs)
    ∙ grows (from_place t) (to_place t) (from_place s) (to_place s) (place x) (span_some t ht) (span_some s hs) st le
    ∙ ap (λ b. b || between (from_place s) (to_place s) (place x)) (sym (holds_is t x ht hx))
    ∙ ap (λ b. holds t x || b) (sym (holds_is s x hs hx))

-- ---- made of two ends

pub span_list_has : (lo : List ℕ) (hi : Bound) (x : List ℕ) → IsName lo → IsBound hi → IsName x → has (span_list lo hi) x ≡ between (place lo) (bound_place hi) (place x)
unfolding span_list
span_list_has lo hi x hl hh hx = elim (under_tells lo hi hl hh) [
  | inl g ↦
      let s : Span = record { lo = lo; hi = hi } in
      rw g.0 (or_none (holds s x) ∙ holds_is s x (span_of s hl hh g.1) hx)
  | inr g ↦ rw g.0 (sym (never (place lo) (bound_place hi) (place x) g.1))
]
  where
    never : (a b v : ℕ) → b ≤ a → between a b v ≡ false
    never a b v le = elim (between_tells a b v) [ inl g ↦ absurd (omega (arith, g.1, g.2)) | inr g ↦ g.0 ]

-- what is made of two ends
pub made_list : (lo : List ℕ) (hi : Bound) (r : Option Span) → is_some r ≡ is_under lo hi → IfSome r (λ t. t ≡ record { lo = lo; hi = hi }) → option_to_list r ≡ span_list lo hi
unfolding span_list
made_list lo hi None e h = rw (← e) refl
made_list lo hi (Some t) e h = rw (← e) (ap (λ u. u ∷ []) h)

-- what ends later than an interval ends behind its start
pub later_under : (l s : Span) → IsSpan l → IsSpan s → bound_lt l.hi s.hi ≡ true → IsTrue (is_under l.lo s.hi)
later_under l s hl hs lt = places_under l.lo s.hi hl.lo hs.hi (omega (arith, span_some l hl, bound_lt_places l.hi s.hi hl.hi hs.hi lt))

-- what an interval has from a name within or behind it on, and from one before it
pub later_cut : (s : Span) (n : List ℕ) (r : Option Span) → name_lt s.lo n ≡ true → option_to_list r ≡ span_list n s.hi → option_to_list r ≡ later_part s n
unfolding later_part
later_cut s n r lt e = rw lt e

pub later_none : (s : Span) (n : List ℕ) → IsSpan s → IsName n → is_under n s.hi ≡ false → [] ≡ later_part s n
unfolding later_part span_list
later_none s n hs hn past = elim (lt_tells s.lo n hs.lo hn) [
  | inl g ↦ rw (g.0, past) refl
  | inr g ↦ elim (under_tells n s.hi hn hs.hi) [ inl f ↦ absurd (let e = f.0 in cc) | inr f ↦ absurd (omega (arith, f.1, g.1, span_some s hs)) ]
]

pub later_whole : (s : Span) (n : List ℕ) → IsSpan s → name_lt s.lo n ≡ false → s ∷ [] ≡ later_part s n
unfolding later_part span_list
later_whole s n hs le = rw (le, hs.some) refl

-- ---- shared

same_greater : (a b : List ℕ) → IsName a → IsName b → greater_name a b ≡ greater_name b a
same_greater a b ha hb = elim (lt_tells b a hb ha) [
  | inl g ↦ elim (lt_tells a b ha hb) [ inl f ↦ absurd (omega (arith, g.1, f.1)) | inr f ↦ rw (g.0, f.0) refl ]
  | inr g ↦ elim (lt_tells a b ha hb) [ inl f ↦ rw (g.0, f.0) refl | inr f ↦ rw (g.0, f.0) (same_place b a hb ha (omega (arith, g.1, f.1))) ]
]

-- the one that ends first shares what it has from the other's start on
pub right_shared : (s t : Span) → bound_lt t.hi s.hi ≡ true → later_part t s.lo ≡ shared_list s t
unfolding later_part shared_list
right_shared s t lt = rw lt refl

pub left_shared : (s t : Span) → IsSpan s → IsSpan t → bound_lt t.hi s.hi ≡ false → later_part s t.lo ≡ shared_list s t
unfolding later_part shared_list
left_shared s t hs ht le = rw le (ap (λ n. span_list n s.hi) (same_greater t.lo s.lo ht.lo hs.lo))

-- what two intervals share, or that they share nothing
pub record Shares (s t : Span) (u : Span) : Type 0 where
  pub list : shared_list s t ≡ u ∷ []
  pub is_span : IsSpan u
  pub from : from_place u ≡ max (from_place s) (from_place t)
  pub to : to_place u ≡ min (to_place s) (to_place t)

pub shared_tells : (s t : Span) → IsSpan s → IsSpan t → ((u : Span) × Shares s t u) ⊎ ((shared_list s t ≡ []) × (min (to_place s) (to_place t) ≤ max (from_place s) (from_place t)))
unfolding shared_list span_list
shared_tells s t hs ht =
    let lo = greater_name s.lo t.lo in
    let hi = lesser_bound s.hi t.hi in
    let u : Span = record { lo = lo; hi = hi } in
    let hl = greater_name_is s.lo t.lo hs.lo ht.lo in
    let hh = lesser_bound_is s.hi t.hi hs.hi ht.hi in
    let from = greater_name_place s.lo t.lo hs.lo ht.lo in
    let to = lesser_bound_place s.hi t.hi hs.hi ht.hi in
    elim (under_tells lo hi hl hh) [
      | inl g ↦ inl (u, record { list = rw g.0 refl; is_span = span_of u hl hh g.1; from = from; to = to })
      | inr g ↦ inr (rw g.0 refl, omega (arith, g.1, from, to))
    ]

pub shared_has : (s t : Span) (x : List ℕ) → IsSpan s → IsSpan t → IsName x → has (shared_list s t) x ≡ (holds s x && holds t x)
unfolding shared_list
shared_has s t x hs ht hx =
    span_list_has (greater_name s.lo t.lo) (lesser_bound s.hi t.hi) x (greater_name_is s.lo t.lo hs.lo ht.lo) (lesser_bound_is s.hi t.hi hs.hi ht.hi) hx
    ∙ ap (λ n. between n (bound_place (lesser_bound s.hi t.hi)) (place x)) (greater_name_place s.lo t.lo hs.lo ht.lo)
    ∙ ap (λ n. between (max (from_place s) (from_place t)) n (place x)) (lesser_bound_place s.hi t.hi hs.hi ht.hi)
    ∙ shares (from_place s) (to_place s) (from_place t) (to_place t) (place x)
    ∙ ap (λ b. b && between (from_place t) (to_place t) (place x)) (sym (holds_is s x hs hx))
    ∙ ap (λ b. holds s x && b) (sym (holds_is t x ht hx))
