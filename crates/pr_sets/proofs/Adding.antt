-- A set with the names of one interval more, and the one list of intervals in any order.
use Rattle.std.proofs.Common.{◌≡◌, ℕ, ◌+◌, ◌≤◌, Bool, true, false, refl, ap, ◌∙◌, arith, inl, inr, List, [], ◌∷◌}
use Rattle.std.specs.Prelude.{◌||◌}
use Rattle.pr_names.specs.Name.{IsName}
use Rattle.pr_names.specs.Span.{Span, IsSpan, holds}
use Rattle.pr_names.specs.declared.bound.Bound.TheVariants.{At}
use Rattle.pr_names.proofs.Place.{from_place, to_place}
use Rattle.pr_names.proofs.Places.{bound_lt_tells, span_some}
use Rattle.pr_sets.specs.Ends.{joined}
use Rattle.pr_sets.specs.Spans.{has, IsSet}
use Rattle.pr_sets.specs.Text.{IsListOf, list_of, with_part}
use Rattle.pr_sets.proofs.Apart.{Apart, apart_of, set_of, weaker}
use Rattle.pr_sets.proofs.SpanEnds.{from_joined, joined_holds, joined_is}
use Rattle.pr_sets.proofs.Lists.{or_assoc}

or_other : (p q r : Bool) → (p || (q || r)) ≡ (q || (p || r))
or_other true true r = refl
or_other true false r = refl
or_other false q r = refl

with_part_apart : (p : ℕ) (ts : List Span) (s : Span) → IsSpan s → p ≤ from_place s → Apart p ts → Apart p (with_part ts s)
unfolding with_part
with_part_apart p [] s hs le ht = (le, hs, tt)
with_part_apart p (t ∷ ts) s hs le ht = elim (bound_lt_tells s.hi (At t.lo) hs.hi ht.1.lo) [
  | inl g ↦ rw g.0 (le, hs, (omega (arith, g.1), ht.1, ht.2))
  | inr g ↦ rw g.0 (elim (bound_lt_tells t.hi (At s.lo) ht.1.hi hs.lo) [
    | inl f ↦ rw f.0 (ht.0, ht.1, with_part_apart (to_place t + 1) ts s hs (omega (arith, f.1)) ht.2)
    | inr f ↦ rw f.0 (with_part_apart p ts (joined s t) (joined_is s t hs ht.1) (omega (arith, from_joined s t hs ht.1, le, ht.0)) (weaker p (to_place t + 1) ts (omega (arith, ht.0, span_some t ht.1)) ht.2))
  ])
]

with_part_has : (p : ℕ) (ts : List Span) (s : Span) (x : List ℕ) → IsSpan s → Apart p ts → IsName x → has (with_part ts s) x ≡ (holds s x || has ts x)
unfolding with_part
with_part_has p [] s x hs ht hx = refl
with_part_has p (t ∷ ts) s x hs ht hx = elim (bound_lt_tells s.hi (At t.lo) hs.hi ht.1.lo) [
  | inl g ↦ rw g.0 refl
  | inr g ↦ rw g.0 (elim (bound_lt_tells t.hi (At s.lo) ht.1.hi hs.lo) [
    | inl f ↦ rw f.0 (ap (λ b. holds t x || b) (with_part_has (to_place t + 1) ts s x hs ht.2 hx) ∙ or_other (holds t x) (holds s x) (has ts x))
    | inr f ↦ rw f.0 (with_part_has (to_place t + 1) ts (joined s t) x (joined_is s t hs ht.1) ht.2 hx
        ∙ ap (λ b. b || has ts x) (joined_holds s t x hs ht.1 hx (omega (arith, g.1)) (omega (arith, f.1)))
        ∙ or_assoc (holds s x) (holds t x) (has ts x))
  ])
]

-- each is an interval
abbrev pub Spans : List Span → Type 0
Spans [] = Unit {0}
Spans (s ∷ ss) = IsSpan s × Spans ss

list_set : (ss : List Span) → Spans ss → IsSet (list_of ss)
unfolding list_of
list_set [] h = tt
list_set (s ∷ ss) h = set_of 0 (with_part (list_of ss) s) (with_part_apart 0 (list_of ss) s h.0 (omega arith) (apart_of (list_of ss) (list_set ss h.1)))

list_has : (ss : List Span) (x : List ℕ) → Spans ss → IsName x → has (list_of ss) x ≡ has ss x
unfolding list_of
list_has [] x h hx = refl
list_has (s ∷ ss) x h hx =
    with_part_has 0 (list_of ss) s x h.0 (apart_of (list_of ss) (list_set ss h.1)) hx
    ∙ ap (λ b. holds s x || b) (list_has ss x h.1 hx)

pub list_is : (ss : List Span) → Spans ss → IsListOf ss (list_of ss)
list_is ss h = record { set = list_set ss h; names = λ x hx. list_has ss x h hx }

pub apart_spans : (p : ℕ) (ss : List Span) → Apart p ss → Spans ss
apart_spans p [] h = tt
apart_spans p (s ∷ ss) h = (h.1, apart_spans (to_place s + 1) ss h.2)
