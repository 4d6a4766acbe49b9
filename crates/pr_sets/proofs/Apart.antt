-- Sets as intervals that lie apart, by places.
use Rattle.std.proofs.Common.{ℕ, zero, suc, ◌+◌, ◌≤◌, List, [], ◌∷◌, drop, arith}
use Rattle.pr_names.specs.Bound.{IsBound}
use Rattle.pr_names.specs.Span.{Span, IsSpan}
use Rattle.pr_names.specs.declared.bound.Bound.{Bound}
use Rattle.pr_names.specs.declared.bound.Bound.TheVariants.{At}
use Rattle.pr_names.proofs.Place.{bound_place, from_place, to_place}
use Rattle.pr_names.proofs.Places.{bound_lt_places, places_bound_lt}
use Rattle.pr_sets.specs.Spans.{IsBehind, IsSet}

-- the intervals lie from this place on, in order, with a gap between each two
abbrev pub Apart : ℕ → List Span → Type 0
Apart p [] = Unit {0}
Apart p (s ∷ ss) = (p ≤ from_place s) × IsSpan s × Apart (to_place s + 1) ss

apart_behind : (end : Bound) (ss : List Span) → IsBound end → IsBehind end ss → IsSet ss → Apart (bound_place end + 1) ss
apart_behind end [] he hb h = tt
apart_behind end (s ∷ ss) he hb h = (omega (arith, bound_lt_places end (At s.lo) he h.0.lo hb), h.0, apart_behind s.hi ss h.0.hi h.1 h.2)

pub apart_of : (ss : List Span) → IsSet ss → Apart 0 ss
apart_of [] h = tt
apart_of (s ∷ ss) h = (omega arith, h.0, apart_behind s.hi ss h.0.hi h.1 h.2)

behind_of : (end : Bound) (ss : List Span) → IsBound end → Apart (bound_place end + 1) ss → IsBehind end ss
behind_of end [] he h = tt
behind_of end (s ∷ ss) he h = places_bound_lt end (At s.lo) he h.1.lo (omega (arith, h.0))

pub set_of : (p : ℕ) (ss : List Span) → Apart p ss → IsSet ss
set_of p [] h = tt
set_of p (s ∷ ss) h = (h.1, behind_of s.hi ss h.1.hi h.2, set_of (to_place s + 1) ss h.2)

pub weaker : (p q : ℕ) (ss : List Span) → p ≤ q → Apart q ss → Apart p ss
weaker p q [] le h = tt
weaker p q (s ∷ ss) le h = (omega (arith, h.0), h.1, h.2)

pub drop_apart : (i p : ℕ) (ss : List Span) → Apart p ss → (q : ℕ) × Apart q (drop i ss)
drop_apart zero p ss h = (p, h)
drop_apart (suc i) p [] h = (p, tt)
drop_apart (suc i) p (s ∷ ss) h = drop_apart i (to_place s + 1) ss h.2
