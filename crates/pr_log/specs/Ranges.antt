-- Intervals of names as ranges of a map.
use Rattle.std.specs.Prelude.{ℕ, List}
use Rattle.std.specs.declared.ops.Bound.TheVariants as std
use Rattle.std.specs.declared.ops.Bound as std_bound
use Rattle.pr_names.specs.declared.bound.Bound.{Bound}
use Rattle.pr_names.specs.declared.bound.Bound.TheVariants.{At, End}

-- the end of an interval
abbrev pub range_end : Bound → std_bound.Bound (List ℕ)
range_end (At o) = std.Excluded o
range_end End = std.Unbounded
