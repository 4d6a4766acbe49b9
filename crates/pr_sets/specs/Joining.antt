-- A list of intervals that grows at its end.
use Rattle.std.specs.Prelude.{List, [], ◌∷◌, ◌++◌, cond}
use Rattle.pr_names.specs.Bound.{bound_lt}
use Rattle.pr_names.specs.Span.{Span}
use Rattle.pr_sets.specs.Spans.{is_behind}

-- an interval up to where another ends, if that is later
abbrev pub grown : Span → Span → Span
grown t s = record { lo = t.lo; hi = cond (bound_lt t.hi s.hi) s.hi t.hi }

-- the last interval grows
unfoldable pub last_grown : List Span → Span → List Span
last_grown [] s = []
last_grown (t ∷ []) s = grown t s ∷ []
last_grown (t ∷ (u ∷ ts)) s = t ∷ last_grown (u ∷ ts) s

-- an interval that begins no earlier than the last one stands behind it, or that one grows
abbrev pub joined_onto : List Span → Span → List Span
joined_onto ts s = cond (is_behind ts s) (ts ++ s ∷ []) (last_grown ts s)

-- interval after interval
unfoldable pub puts : List Span → List Span → List Span
puts ts [] = ts
puts ts (s ∷ ss) = puts (joined_onto ts s) ss
