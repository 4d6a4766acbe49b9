-- Ends of intervals: a name, or the end, which comes after every name.
use Rattle.std.specs.Prelude.{ℕ, Bool, true, false, List}
use Rattle.pr_names.specs.Name.{IsName}
use Rattle.pr_names.specs.Order.{name_lt}
use Rattle.pr_names.specs.declared.bound.Bound.{Bound}
use Rattle.pr_names.specs.declared.bound.Bound.TheVariants.{At, End}

-- what stands in the bound is a name
abbrev pub IsBound : Bound → Type 0
IsBound (At n) = IsName n
IsBound End = Unit {0}

-- the name comes before the bound
abbrev pub is_under : List ℕ → Bound → Bool
is_under x (At n) = name_lt x n
is_under x End = true

-- the one bound comes before the other
abbrev pub bound_lt : Bound → Bound → Bool
bound_lt (At n) b = is_under n b
bound_lt End b = false
