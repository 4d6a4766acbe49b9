-- The sets that a node declares, and the rest: the names that are in none of them.
use Rattle.std.specs.Prelude.{ℕ, Bool, not, cond, List, [], ◌∷◌, AllPairs}
use Rattle.std.specs.List.{list_any}
use Rattle.pr_names.specs.Span.{Span}
use Rattle.pr_sets.specs.Spans.{has, Meet}

-- no two of the sets share a name
abbrev pub AreApart : List (List Span) → Type 0
AreApart sets = AllPairs (λ (a : List Span) (b : List Span). ¬ Meet (has a) (has b)) sets

-- the rest: the names that are in none of these sets
abbrev pub rest_of : List (List Span) → List ℕ → Bool
rest_of sets o = not (list_any (λ set. has set o) sets)

-- the first of these sets that has the name, or else the rest
abbrev pub first_with : List (List Span) → (List ℕ → Bool) → List ℕ → List ℕ → Bool
first_with [] rest o = rest
first_with (set ∷ sets) rest o = cond (has set o) (has set) (first_with sets rest o)

-- the one of the sets that has the name
abbrev pub set_of : List (List Span) → List ℕ → List ℕ → Bool
set_of sets o = first_with sets (rest_of sets) o
