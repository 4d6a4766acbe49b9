-- Intervals are known by the places of their ends.
use Rattle.std.proofs.Common.{◌≡◌, ℕ, refl, ap, ◌∙◌, arith, List, true}
use Rattle.std.specs.Str.{bytes_eq}
use Rattle.std.proofs.lemmas.Slice.Eq.{bytes_eq-Decides}
use Rattle.pr_names.specs.Bound.{IsBound}
use Rattle.pr_names.specs.Span.{Span}
use Rattle.pr_names.proofs.Place.{bound_place}
use Rattle.pr_names.specs.declared.bound.Bound.{Bound}
use Rattle.pr_names.specs.declared.bound.Bound.TheVariants.{At, End}
use Rattle.pr_names.proofs.Places.{same_place, place_top}

pub same_bound : (b c : Bound) → IsBound b → IsBound c → bound_place b ≡ bound_place c → b ≡ c
same_bound (At n) (At m) hb hc e = ap At (same_place n m hb hc e)
same_bound (At n) End hb hc e = absurd (omega (arith, place_top n hb, e))
same_bound End (At m) hb hc e = absurd (omega (arith, place_top m hc, e))
same_bound End End hb hc e = refl

pub same_span : (s t : Span) → s.lo ≡ t.lo → s.hi ≡ t.hi → s ≡ t
same_span s t e f =
    ap (λ (l : List ℕ). let r : Span = record { lo = l; hi = s.hi } in r) e
    ∙ ap (λ (h : Bound). let r : Span = record { lo = t.lo; hi = h } in r) f

pub bytes_same : (x y : List ℕ) → bytes_eq x y ≡ true → x ≡ y
bytes_same x y h = (bytes_eq-Decides x y).0 h
