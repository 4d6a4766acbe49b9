-- Intervals made of the ends of others.
use Rattle.std.specs.Prelude.{ℕ, List, [], ◌∷◌, cond}
use Rattle.pr_names.specs.Order.{name_lt}
use Rattle.pr_names.specs.Bound.{bound_lt, is_under}
use Rattle.pr_names.specs.Span.{Span}
use Rattle.pr_names.specs.declared.bound.Bound.{Bound}
use Rattle.pr_names.specs.declared.bound.Bound.TheVariants.{At, End}

abbrev pub lesser_name : List ℕ → List ℕ → List ℕ
lesser_name a b = cond (name_lt b a) b a

abbrev pub greater_name : List ℕ → List ℕ → List ℕ
greater_name a b = cond (name_lt b a) a b

abbrev pub greater_bound : Bound → Bound → Bound
greater_bound a b = cond (bound_lt b a) a b

-- two intervals that overlap or touch, as one
unfoldable pub joined : Span → Span → Span
joined s t = record { lo = lesser_name s.lo t.lo; hi = greater_bound s.hi t.hi }

-- the interval of these ends as a list, which is empty where no name lies between
unfoldable pub span_list : List ℕ → Bound → List Span
span_list lo hi = cond (is_under lo hi) (record { lo = lo; hi = hi } ∷ []) []

-- what an interval has from a name on
unfoldable pub later_part : Span → List ℕ → List Span
later_part s n = span_list (greater_name n s.lo) s.hi

-- the names from one bound up to another
unfoldable pub gap : Bound → Bound → List Span
gap (At n) b = span_list n b
gap End b = []
