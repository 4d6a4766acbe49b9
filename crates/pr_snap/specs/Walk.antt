-- What stands next to a name in a set.
use Rattle.std.specs.Prelude.{◌≡◌, ℕ, List, false, IsTrue, Option, None, Some}
use Rattle.pr_names.specs.Bound.{is_under}
use Rattle.pr_names.specs.Order.{name_lt}
use Rattle.pr_names.specs.Span.{Span}
use Rattle.pr_names.specs.declared.bound.Bound.{Bound}
use Rattle.pr_names.specs.declared.bound.Bound.TheVariants.{At, End}
use Rattle.pr_sets.specs.Spans.{has}

-- b is the least name of the set that comes after a, if there is one
abbrev pub IsFirstPast : List Span → List ℕ → Option (List ℕ) → Type 0
IsFirstPast names a None = (o : List ℕ) → IsTrue (name_lt a o) → has names o ≡ false
IsFirstPast names a (Some b) =
    IsTrue (name_lt a b) × IsTrue (has names b) × ((o : List ℕ) → IsTrue (name_lt a o) → IsTrue (has names o) → name_lt o b ≡ false)

-- each name from a up to the bound is in the set
abbrev pub HasUpTo : List Span → List ℕ → Bound → Type 0
HasUpTo names a end = (o : List ℕ) → name_lt o a ≡ false → IsTrue (is_under o end) → IsTrue (has names o)

-- the set has each name from a up to this bound, and not the bound; there is none where it lacks a
abbrev pub IsEndOf : List Span → List ℕ → Option Bound → Type 0
IsEndOf names a None = has names a ≡ false
IsEndOf names a (Some (At e)) = IsTrue (name_lt a e) × HasUpTo names a (At e) × (has names e ≡ false)
IsEndOf names a (Some End) = HasUpTo names a End

-- the name that the bound is, if it is one
abbrev pub name_at : Bound → Option (List ℕ)
name_at (At e) = Some e
name_at End = None
