-- What sets share is their intersection.
use Rattle.std.proofs.Common.{◌≡◌, ℕ, ◌+◌, ◌<◌, ◌≤◌, Bool, true, false, refl, ap, ◌∙◌, arith, inl, inr, List, [], ◌∷◌, ◌++◌, append_assoc, append-nil}
use Rattle.std.specs.Prelude.{◌||◌, ◌&&◌, max}
use Rattle.pr_names.specs.Name.{IsName}
use Rattle.pr_names.specs.Span.{Span, IsSpan, holds}
use Rattle.pr_names.proofs.Place.{from_place, to_place}
use Rattle.pr_names.proofs.Places.{span_some}
use Rattle.pr_sets.specs.Spans.{has, IsSet, IsIntersection}
use Rattle.pr_sets.proofs.Apart.{Apart, apart_of, set_of}
use Rattle.pr_sets.proofs.SpanEnds.{shared_has, shared_tells}
use Rattle.pr_sets.proofs.Lists.{EndsBelow, apart_append, has_append}
use Rattle.pr_sets.proofs.Parts.{shared_list, shared_of, shared_with}

both_or : (p q r : Bool) → ((p && q) || (p && r)) ≡ (p && (q || r))
both_or true q r = refl
both_or false q r = refl

none_both : (b : Bool) → false ≡ (b && false)
none_both true = refl
none_both false = refl

shared_with_has : (p : ℕ) (s : Span) (ts : List Span) (x : List ℕ) → IsSpan s → Apart p ts → IsName x → has (shared_with s ts) x ≡ (holds s x && has ts x)
unfolding shared_with
shared_with_has p s [] x hs ht hx = none_both (holds s x)
shared_with_has p s (t ∷ ts) x hs ht hx =
    has_append (shared_list s t) (shared_with s ts) x
    ∙ ap (λ b. b || has (shared_with s ts) x) (shared_has s t x hs ht.1 hx)
    ∙ ap (λ b. (holds s x && holds t x) || b) (shared_with_has (to_place t + 1) s ts x hs ht.2 hx)
    ∙ both_or (holds s x) (holds t x) (has ts x)

or_both : (p q r : Bool) → ((p && r) || (q && r)) ≡ ((p || q) && r)
or_both true true true = refl
or_both true true false = refl
or_both true false true = refl
or_both true false false = refl
or_both false q r = refl

pub shared_names : (p q : ℕ) (a b : List Span) (x : List ℕ) → Apart p a → Apart q b → IsName x → has (shared_of a b) x ≡ (has a x && has b x)
unfolding shared_of
shared_names p q [] b x ha hb hx = refl
shared_names p q (s ∷ ss) b x ha hb hx =
    has_append (shared_with s b) (shared_of ss b) x
    ∙ ap (λ c. c || has (shared_of ss b) x) (shared_with_has q s b x ha.1 hb hx)
    ∙ ap (λ c. (holds s x && has b x) || c) (shared_names (to_place s + 1) q ss b x ha.2 hb hx)
    ∙ or_both (holds s x) (has ss x) (has b x)

shared_ends : (p : ℕ) (s : Span) (ts : List Span) → IsSpan s → Apart p ts → EndsBelow (to_place s + 1) (shared_with s ts)
unfolding shared_with
shared_ends p s [] hs ht = tt
shared_ends p s (t ∷ ts) hs ht =
    let rest = shared_ends (to_place t + 1) s ts hs ht.2 in
    elim (shared_tells s t hs ht.1) [
      | inl u ↦ rw u.1.list (omega (arith, u.1.to), rest)
      | inr g ↦ rw g.0 rest
    ]

shared_apart : (p q : ℕ) (s : Span) (ts : List Span) → IsSpan s → Apart q ts → p ≤ max (from_place s) q → Apart p (shared_with s ts)
unfolding shared_with
shared_apart p q s [] hs ht le = tt
shared_apart p q s (t ∷ ts) hs ht le = elim (shared_tells s t hs ht.1) [
  | inl u ↦ rw u.1.list (omega (arith, u.1.from, ht.0), u.1.is_span, shared_apart (to_place u.0 + 1) (to_place t + 1) s ts hs ht.2 (omega (arith, u.1.to)))
  | inr g ↦ rw g.0 (shared_apart p (to_place t + 1) s ts hs ht.2 (omega (arith, ht.0, span_some t ht.1)))
]

shared_of_apart : (p q : ℕ) (a b : List Span) → Apart p a → Apart q b → Apart p (shared_of a b)
unfolding shared_of
shared_of_apart p q [] b ha hb = tt
shared_of_apart p q (s ∷ ss) b ha hb =
    apart_append p (to_place s + 1) (shared_with s b) (shared_of ss b) (omega (arith, ha.0, span_some s ha.1))
    (shared_apart p q s b ha.1 hb (omega (arith, ha.0))) (shared_ends q s b ha.1 hb) (shared_of_apart (to_place s + 1) q ss b ha.2 hb)

pub shared_is : (a b : List Span) → IsSet a → IsSet b → IsIntersection a b (shared_of a b)
shared_is a b ha hb = record {
  set = set_of 0 (shared_of a b) (shared_of_apart 0 0 a b (apart_of a ha) (apart_of b hb));
  names = λ x hx. shared_names 0 0 a b x (apart_of a ha) (apart_of b hb) hx;
}

-- intervals that begin behind another share nothing with it
shared_none : (p : ℕ) (s : Span) (ts : List Span) → IsSpan s → to_place s < p → Apart p ts → shared_with s ts ≡ []
unfolding shared_with
shared_none p s [] hs lt h = refl
shared_none p s (t ∷ ts) hs lt h = elim (shared_tells s t hs h.1) [
  | inl u ↦ absurd (omega (arith, u.1.from, u.1.to, span_some u.0 u.1.is_span, h.0))
  | inr g ↦ rw g.0 (shared_none (to_place t + 1) s ts hs (omega (arith, h.0, span_some t h.1)) h.2)
]

-- an interval that ends before all others can go
first_unshared : (p : ℕ) (ss : List Span) (t : Span) (ts : List Span) → IsSpan t → to_place t < p → Apart p ss → shared_of ss (t ∷ ts) ≡ shared_of ss ts
unfolding shared_of shared_with
first_unshared p [] t ts ht lt h = refl
first_unshared p (s ∷ ss) t ts ht lt h = elim (shared_tells s t h.1 ht) [
  | inl u ↦ absurd (omega (arith, u.1.from, u.1.to, span_some u.0 u.1.is_span, h.0))
  | inr g ↦ rw g.0 (ap (λ us. shared_with s ts ++ us) (first_unshared (to_place s + 1) ss t ts ht (omega (arith, h.0, span_some s h.1)) h.2))
]

-- where the left interval ends first, it is done with
pub left_done : (p q : ℕ) (s : Span) (ss : List Span) (t : Span) (ts : List Span) → Apart p (s ∷ ss) → Apart q (t ∷ ts) → to_place s ≤ to_place t → shared_of (s ∷ ss) (t ∷ ts) ≡ shared_list s t ++ shared_of ss (t ∷ ts)
unfolding shared_of shared_with
left_done p q s ss t ts hs ht le =
    ap (λ us. (shared_list s t ++ us) ++ shared_of ss (t ∷ ts)) (shared_none (to_place t + 1) s ts hs.1 (omega arith) ht.2)
    ∙ ap (λ us. us ++ shared_of ss (t ∷ ts)) (append-nil (shared_list s t))

-- where the right interval ends first, it is done with
pub right_done : (p q : ℕ) (s : Span) (ss : List Span) (t : Span) (ts : List Span) → Apart p (s ∷ ss) → Apart q (t ∷ ts) → to_place t < to_place s → shared_of (s ∷ ss) (t ∷ ts) ≡ shared_list s t ++ shared_of (s ∷ ss) ts
unfolding shared_of shared_with
right_done p q s ss t ts hs ht lt =
    ap (λ us. (shared_list s t ++ shared_with s ts) ++ us) (first_unshared (to_place s + 1) ss t ts ht.1 (omega arith) hs.2)
    ∙ append_assoc (shared_list s t) (shared_with s ts) (shared_of ss ts)
