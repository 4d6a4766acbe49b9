-- Two sets share a name exactly where two of their intervals overlap.
use Rattle.std.proofs.Common.{◌≡◌, ℕ, Bool, true, false, ◌&&◌, ◌||◌, List, [], ◌∷◌, refl, ap, ◌∙◌, inl, inr}
use Rattle.std.specs.Prelude.{IsTrue, ◌↔◌, ◌⊎◌}
use Rattle.std.specs.List.{list_any}
use Rattle.pr_names.specs.Name.{IsName}
use Rattle.pr_names.specs.Bound.{is_under}
use Rattle.pr_names.specs.Span.{Span, IsSpan, holds, Overlap}
use Rattle.pr_names.proofs.Places.{under_places, places_under}
use Rattle.pr_names.proofs.Overlaps.{overlap_of, overlap_ends}
use Rattle.pr_sets.specs.Spans.{has, IsSet, Meet}
use Rattle.pr_script.specs.Sets.{overlap, share}
use Rattle.pr_script.proofs.Positions.{both, same_tests}

-- ---- two intervals

overlaps : (s t : Span) → IsSpan s → IsSpan t → overlap s t ≡ true → Overlap s t
overlaps s t hs ht e =
    let p = both (is_under s.lo t.hi) (is_under t.lo s.hi) e in
    overlap_of s t hs ht (under_places s.lo t.hi hs.lo ht.hi p.0) (under_places t.lo s.hi ht.lo hs.hi p.1)

overlapping : (s t : Span) → IsSpan s → IsSpan t → Overlap s t → overlap s t ≡ true
overlapping s t hs ht o =
    let p = overlap_ends s t hs ht o in
    ap (λ (b : Bool). b && is_under t.lo s.hi) (places_under s.lo t.hi hs.lo ht.hi p.0) ∙ places_under t.lo s.hi ht.lo hs.hi p.1

-- ---- an interval and a set

either : (b c : Bool) → (b || c) ≡ true → (b ≡ true) ⊎ (c ≡ true)
either true c h = inl refl
either false c h = inr h

or_first : (b c : Bool) → b ≡ true → (b || c) ≡ true
or_first b c h = ap (λ (x : Bool). x || c) h

or_second : (b c : Bool) → c ≡ true → (b || c) ≡ true
or_second true c h = refl
or_second false c h = h

one_meets : (s : Span) (b : List Span) → IsSpan s → IsSet b → list_any (λ t. overlap s t) b ≡ true → (x : List ℕ) × IsName x × (holds s x ≡ true) × (has b x ≡ true)
one_meets s [] hs hb e = absurd cc
one_meets s (t ∷ b) hs hb e = elim (either (overlap s t) (list_any (λ t. overlap s t) b) e) [
  | inl o ↦ (let m = overlaps s t hs hb.0 o in (m.0, m.1, m.2, or_first (holds t m.0) (has b m.0) m.3))
  | inr r ↦ (let m = one_meets s b hs hb.2 r in (m.0, m.1, m.2, or_second (holds t m.0) (has b m.0) m.3))
]

one_overlaps : (s : Span) (b : List Span) (x : List ℕ) → IsSpan s → IsSet b → IsName x → holds s x ≡ true → has b x ≡ true → list_any (λ t. overlap s t) b ≡ true
one_overlaps s [] x hs hb n h e = absurd cc
one_overlaps s (t ∷ b) x hs hb n h e = elim (either (holds t x) (has b x) e) [
  | inl o ↦ or_first (overlap s t) (list_any (λ t. overlap s t) b) (overlapping s t hs hb.0 (x, n, h, o))
  | inr r ↦ or_second (overlap s t) (list_any (λ t. overlap s t) b) (one_overlaps s b x hs hb.2 n h r)
]

-- ---- two sets

pub share_meets : (a b : List Span) → IsSet a → IsSet b → share a b ≡ true → Meet (has a) (has b)
share_meets [] b ha hb e = absurd cc
share_meets (s ∷ a) b ha hb e = elim (either (list_any (λ t. overlap s t) b) (share a b) e) [
  | inl o ↦ (let m = one_meets s b ha.0 hb o in (m.0, m.1, or_first (holds s m.0) (has a m.0) m.2, m.3))
  | inr r ↦ (let m = share_meets a b ha.2 hb r in (m.0, m.1, or_second (holds s m.0) (has a m.0) m.2, m.3))
]

some_share : (a b : List Span) (x : List ℕ) → IsSet a → IsSet b → IsName x → has a x ≡ true → has b x ≡ true → share a b ≡ true
some_share [] b x ha hb n e h = absurd cc
some_share (s ∷ a) b x ha hb n e h = elim (either (holds s x) (has a x) e) [
  | inl o ↦ or_first (list_any (λ t. overlap s t) b) (share a b) (one_overlaps s b x ha.0 hb n o h)
  | inr r ↦ or_second (list_any (λ t. overlap s t) b) (share a b) (some_share a b x ha.2 hb n r h)
]

pub shares : (a b : List Span) → IsSet a → IsSet b → IsTrue (share a b) ↔ Meet (has a) (has b)
shares a b ha hb = (share_meets a b ha hb, λ m. some_share a b m.0 ha hb m.1 m.2 m.3)

pub share_is : (r : Bool) (a b : List Span) → IsSet a → IsSet b → IsTrue r ↔ Meet (has a) (has b) → r ≡ share a b
share_is r a b ha hb (f, g) = same_tests r (share a b) (λ e. (shares a b ha hb).1 (f e)) (λ e. g (share_meets a b ha hb e))
