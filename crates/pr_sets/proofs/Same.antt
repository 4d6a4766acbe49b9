-- Two sets with the same names are one list.
use Rattle.std.proofs.Common.{◌≡◌, ℕ, suc, length, ◌+◌, ◌<◌, ◌≤◌, Bool, true, false, refl, sym, ap, ◌∙◌, arith, inl, inr, List, [], ◌∷◌}
use Rattle.std.specs.Prelude.{◌==◌, MatchBool, IsTrue}
use Rattle.std.proofs.lemmas.Bool.Decides.{leb_tells, eqb_tells}
use Rattle.std.proofs.lemmas.Bool.{false≢true}
use Rattle.pr_names.specs.Name.{IsName}
use Rattle.pr_names.specs.Bound.{IsBound}
use Rattle.pr_names.specs.Span.{Span, IsSpan}
use Rattle.pr_names.specs.declared.bound.Bound.{Bound}
use Rattle.pr_names.specs.declared.bound.Bound.TheVariants.{At, End}
use Rattle.pr_names.proofs.Place.{place, top, bound_place, from_place, to_place}
use Rattle.pr_names.proofs.Places.{bound_most, holds_tells, same_place, span_some}
use Rattle.pr_names.proofs.Spans.{same_bound, same_span}
use Rattle.pr_sets.specs.Spans.{has, IsSet}
use Rattle.pr_sets.proofs.Apart.{Apart, apart_of}

-- what has a name lies at the set's first place or behind
pub has_from : (p : ℕ) (ss : List Span) (x : List ℕ) → Apart p ss → IsName x → has ss x ≡ true → p ≤ place x
has_from p [] x h hx e = absurd (cc)
has_from p (s ∷ ss) x h hx e = elim (holds_tells s x h.1 hx) [
  | inl t ↦ omega (arith, h.0, t.1)
  | inr t ↦ let rest : has ss x ≡ true = rw t.0 at e in omega (arith, has_from (to_place s + 1) ss x h.2 hx rest, h.0, span_some s h.1)
]

-- a set has no name before its first place
pub none_before : (p : ℕ) (ss : List Span) (x : List ℕ) → Apart p ss → IsName x → place x < p → has ss x ≡ false
none_before p ss x h hx lt = before (has ss x) refl
  where
    before : (b : Bool) → has ss x ≡ b → has ss x ≡ false
    before true e = absurd (omega (arith, has_from p ss x h hx e))
    before false e = e

-- a bound below another is a name
pub is_reached : (b : Bound) (p : ℕ) → IsBound b → bound_place b < p → p ≤ top → (x : List ℕ) × IsName x × (place x ≡ bound_place b)
is_reached (At n) p h lt le = (n, h, refl)
is_reached End p h lt le = absurd (omega arith)

pub holds_at : (s : Span) (ss : List Span) (x : List ℕ) → IsSpan s → IsName x → from_place s ≤ place x → place x < to_place s → has (s ∷ ss) x ≡ true
holds_at s ss x hs hx le lt = elim (holds_tells s x hs hx) [ inl t ↦ rw t.0 refl | inr t ↦ absurd (omega (arith, t.1)) ]

-- a set's name behind its first interval is one of the rest
pub holds_not : (s : Span) (ss : List Span) (x : List ℕ) → IsSpan s → IsName x → to_place s ≤ place x → has (s ∷ ss) x ≡ has ss x
holds_not s ss x hs hx le = elim (holds_tells s x hs hx) [ inl t ↦ absurd (omega (arith, t.2)) | inr t ↦ rw t.0 refl ]

abbrev pub SameNames : List Span → List Span → Type 0
SameNames a b = (x : List ℕ) → IsName x → has a x ≡ has b x

flipped : (a b : List Span) → SameNames a b → SameNames b a
flipped a b h x hx = sym (h x hx)

-- the first name of a set
pub has_first : (p : ℕ) (s : Span) (ss : List Span) → Apart p (s ∷ ss) → has (s ∷ ss) s.lo ≡ true
has_first p s ss h = holds_at s ss s.lo h.1 h.1.lo (omega arith) (span_some s h.1)

lo_most : (p q : ℕ) (s t : Span) (ss ts : List Span) → Apart p (s ∷ ss) → Apart q (t ∷ ts) → SameNames (s ∷ ss) (t ∷ ts) → from_place t ≤ from_place s
lo_most p q s t ss ts hs ht h =
    has_from (from_place t) (t ∷ ts) s.lo (omega arith, ht.1, ht.2) hs.1.lo
    (sym (h s.lo hs.1.lo) ∙ has_first p s ss hs)

hi_most : (p q : ℕ) (s t : Span) (ss ts : List Span) → Apart p (s ∷ ss) → Apart q (t ∷ ts) → SameNames (s ∷ ss) (t ∷ ts) → from_place s ≡ from_place t → to_place t ≤ to_place s
hi_most p q s t ss ts hs ht h e = elim (leb_tells (to_place t) (to_place s)) [
  | inl g ↦ g.1
  | inr g ↦
      let w = is_reached s.hi (to_place t) hs.1.hi g.1 (bound_most t.hi ht.1.hi) in
      let yes : has (t ∷ ts) w.0 ≡ true = holds_at t ts w.0 ht.1 w.1 (omega (arith, w.2, e, span_some s hs.1)) (omega (arith, w.2, g.1)) in
      let no : has (s ∷ ss) w.0 ≡ false = holds_not s ss w.0 hs.1 w.1 (omega (arith, w.2)) ∙ none_before (to_place s + 1) ss w.0 hs.2 w.1 (omega (arith, w.2)) in
      absurd (false≢true (sym no ∙ h w.0 w.1 ∙ yes))
]

rest_same : (p q : ℕ) (s t : Span) (ss ts : List Span) → Apart p (s ∷ ss) → Apart q (t ∷ ts) → SameNames (s ∷ ss) (t ∷ ts) → to_place s ≡ to_place t → SameNames ss ts
rest_same p q s t ss ts hs ht h e x hx = elim (leb_tells (to_place s) (place x)) [
  | inl g ↦ sym (holds_not s ss x hs.1 hx g.1) ∙ h x hx ∙ holds_not t ts x ht.1 hx (omega (arith, g.1, e))
  | inr g ↦ none_before (to_place s + 1) ss x hs.2 hx (omega (arith, g.1)) ∙ sym (none_before (to_place t + 1) ts x ht.2 hx (omega (arith, g.1, e)))
]

-- a list with an interval has a name
not_empty : (p : ℕ) (s : Span) (ss : List Span) → Apart p (s ∷ ss) → SameNames [] (s ∷ ss) → ⊥
not_empty p s ss hs h = false≢true (h s.lo hs.1.lo ∙ has_first p s ss hs)

same_from : (p q : ℕ) (a b : List Span) → Apart p a → Apart q b → SameNames a b → a ≡ b
same_from p q [] [] ha hb h = refl
same_from p q [] (t ∷ ts) ha hb h = absurd (not_empty q t ts hb h)
same_from p q (s ∷ ss) [] ha hb h = absurd (not_empty p s ss ha (flipped (s ∷ ss) [] h))
same_from p q (s ∷ ss) (t ∷ ts) ha hb h =
    let back = flipped (s ∷ ss) (t ∷ ts) h in
    let lo : from_place s ≡ from_place t = omega (arith, lo_most p q s t ss ts ha hb h, lo_most q p t s ts ss hb ha back) in
    let hi : to_place s ≡ to_place t = omega (arith, hi_most p q s t ss ts ha hb h lo, hi_most q p t s ts ss hb ha back (sym lo)) in
    let one : s ≡ t = same_span s t (same_place s.lo t.lo ha.1.lo hb.1.lo lo) (same_bound s.hi t.hi ha.1.hi hb.1.hi hi) in
    ap (λ u. u ∷ ss) one
    ∙ ap (λ us. t ∷ us) (same_from (to_place s + 1) (to_place t + 1) ss ts ha.2 hb.2 (rest_same p q s t ss ts ha hb h hi))

pub same_list : (a b : List Span) → IsSet a → IsSet b → SameNames a b → a ≡ b
same_list a b ha hb h = same_from 0 0 a b (apart_of a ha) (apart_of b hb) h

-- a set is empty where it has no interval, and has a name else
pub empty_names : (ss : List Span) (r : Bool) → IsSet ss → r ≡ (length ss == 0) → MatchBool r ((x : List ℕ) → IsName x → has ss x ≡ false) ((x : List ℕ) × IsName x × IsTrue (has ss x))
empty_names [] r h e = rw e (λ x hx. refl)
empty_names (s ∷ ss) r h e = rw (e ∙ not_none (length ss)) (s.lo, h.0.lo, has_first 0 s ss (apart_of (s ∷ ss) h))
  where
    not_none : (n : ℕ) → (suc n == 0) ≡ false
    not_none n = elim (eqb_tells (suc n) 0) [ inl g ↦ absurd (omega (arith, g.1)) | inr g ↦ g.0 ]
