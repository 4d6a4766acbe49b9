-- Intervals of names.
use Rattle.std.specs.Prelude.{ℕ, Bool, List, IsTrue, not, ◌&&◌}
use Rattle.pr_names.specs.Name.{IsName}
use Rattle.pr_names.specs.Order.{name_lt}
use Rattle.pr_names.specs.Bound.{IsBound, is_under}
use Rattle.pr_names.specs.declared.bound.Bound.{Bound}

-- from a name up to a bound
pub record Span : Type 0 where
  pub lo : List ℕ
  pub hi : Bound

-- the bound comes after the name, so that there is at least one name between
pub record IsSpan (s : Span) : Type 0 where
  pub lo : IsName s.lo
  pub hi : IsBound s.hi
  pub some : IsTrue (is_under s.lo s.hi)

-- the name lies in the interval: not before its start, and before its end
abbrev pub holds : Span → List ℕ → Bool
holds s x = not (name_lt x s.lo) && is_under x s.hi

-- some name lies in both intervals
abbrev pub Overlap : Span → Span → Type 0
Overlap s t = (x : List ℕ) × IsName x × IsTrue (holds s x) × IsTrue (holds t x)
