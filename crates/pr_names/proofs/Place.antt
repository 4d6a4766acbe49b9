-- A name's place in the order of all names, as a number: so every fact on order is one on numbers.
use Rattle.std.specs.Prelude.{ℕ, List, [], ◌∷◌, ◌+◌, ◌*◌, ◌^◌, zero, suc}
use Rattle.pr_names.specs.Span.{Span}
use Rattle.pr_names.specs.declared.bound.Bound.{Bound}
use Rattle.pr_names.specs.declared.bound.Bound.TheVariants.{At, End}

-- the number that the first bytes spell, with zeros behind
unfoldable pub place_in : ℕ → List ℕ → ℕ
place_in zero bs = 0
place_in (suc k) [] = 0
place_in (suc k) (b ∷ bs) = b * 256 ^ k + place_in k bs

-- the number that 64 bytes spell
unfoldable pub place : List ℕ → ℕ
place bs = place_in 64 bs

-- above each name's place
unfoldable pub top : ℕ
top = 256 ^ 64

-- the end is above each name
abbrev pub bound_place : Bound → ℕ
bound_place (At n) = place n
bound_place End = top

abbrev pub from_place : Span → ℕ
from_place s = place s.lo

abbrev pub to_place : Span → ℕ
to_place s = bound_place s.hi
