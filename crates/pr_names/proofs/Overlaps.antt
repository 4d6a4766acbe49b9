-- Intervals that share a name.
use Rattle.std.proofs.Common.{◌≡◌, ◌<◌, Bool, true, false, sym, ◌∙◌, arith, inl, inr}
use Rattle.std.specs.Prelude.{◌↔◌, IsTrue}
use Rattle.std.proofs.lemmas.Bool.{false≢true}
use Rattle.pr_names.specs.Bound.{is_under}
use Rattle.pr_names.specs.Span.{Span, IsSpan, Overlap}
use Rattle.pr_names.proofs.Place.{from_place, to_place}
use Rattle.pr_names.proofs.Places.{holds_places, lt_tells, places_hold, places_under, span_some, under_places}

-- the later start of two intervals lies in both, where each begins before the other ends
pub overlap_of : (s t : Span) → IsSpan s → IsSpan t → from_place s < to_place t → from_place t < to_place s → Overlap s t
overlap_of s t hs ht st ts = elim (lt_tells s.lo t.lo hs.lo ht.lo) [
  | inl g ↦ (t.lo, ht.lo, places_hold s t.lo hs ht.lo (omega (arith, g.1)) ts, places_hold t t.lo ht ht.lo (omega arith) (span_some t ht))
  | inr g ↦ (s.lo, hs.lo, places_hold s s.lo hs hs.lo (omega arith) (span_some s hs), places_hold t s.lo ht hs.lo (omega (arith, g.1)) st)
]

-- a name in both lies before both ends
pub overlap_ends : (s t : Span) → IsSpan s → IsSpan t → Overlap s t → (from_place s < to_place t) × (from_place t < to_place s)
overlap_ends s t hs ht o =
    let a = holds_places s o.0 hs o.1 o.2 in
    let b = holds_places t o.0 ht o.1 o.3 in
    (omega (arith, a.0, a.1, b.0, b.1), omega (arith, a.0, a.1, b.0, b.1))

pub meets_so : (s t : Span) (a b : Bool) → IsSpan s → IsSpan t → a ≡ is_under s.lo t.hi → b ≡ is_under t.lo s.hi → a ≡ true → IsTrue b ↔ Overlap s t
meets_so s t a b hs ht ea eb h = (
  λ g. overlap_of s t hs ht (under_places s.lo t.hi hs.lo ht.hi (sym ea ∙ h)) (under_places t.lo s.hi ht.lo hs.hi (sym eb ∙ g)),
  λ o. eb ∙ places_under t.lo s.hi ht.lo hs.hi (overlap_ends s t hs ht o).1,
)

pub meets_not : (s t : Span) (a : Bool) → IsSpan s → IsSpan t → a ≡ is_under s.lo t.hi → a ≡ false → IsTrue a ↔ Overlap s t
meets_not s t a hs ht ea h = (
  λ g. absurd (false≢true (sym h ∙ g)),
  λ o. ea ∙ places_under s.lo t.hi hs.lo ht.hi (overlap_ends s t hs ht o).0,
)
