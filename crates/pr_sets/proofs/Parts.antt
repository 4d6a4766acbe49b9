-- What is left to find in the loops over intervals.
use Rattle.std.specs.Prelude.{List, [], ◌∷◌, ◌++◌, cond}
use Rattle.pr_names.specs.Bound.{bound_lt}
use Rattle.pr_names.specs.Span.{Span}
use Rattle.pr_names.specs.declared.bound.Bound.{Bound}
use Rattle.pr_names.specs.declared.bound.Bound.TheVariants.{At, End}
use Rattle.pr_sets.specs.Ends.{gap, greater_name, span_list}

abbrev pub lesser_bound : Bound → Bound → Bound
lesser_bound a b = cond (bound_lt b a) b a

-- what two intervals share
unfoldable pub shared_list : Span → Span → List Span
shared_list s t = span_list (greater_name s.lo t.lo) (lesser_bound s.hi t.hi)

-- what an interval shares with each of these
unfoldable pub shared_with : Span → List Span → List Span
shared_with s [] = []
shared_with s (t ∷ ts) = shared_list s t ++ shared_with s ts

-- what two lists of intervals share
unfoldable pub shared_of : List Span → List Span → List Span
shared_of [] b = []
shared_of (s ∷ ss) b = shared_with s b ++ shared_of ss b

-- what lies between the intervals, from a bound on
unfoldable pub gaps_from : List Span → Bound → List Span
gaps_from [] b = gap b End
gaps_from (s ∷ ss) b = gap b (At s.lo) ++ gaps_from ss s.hi
