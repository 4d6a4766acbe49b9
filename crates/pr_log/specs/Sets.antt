-- The dark names of one writer's points, by the clocks at which they change.
use Rattle.std.specs.Prelude.{◌≡◌, ◌≤◌, ◌-◌, ◌⊎◌, ◌&&◌, ◌||◌, ℕ, Bool, false, not, zero, suc, List, Option, None, Some}
use Rattle.std.specs.List.{list_any}
use Rattle.std.specs.Str.{bytes_eq}
use Rattle.std.specs.Map.{lookup}
use Rattle.std.specs.Option.{option_or}
use Rattle.std.specs.Ordering.{is_eq, nat_cmp}
use Rattle.pr_names.specs.Name.{IsName}
use Rattle.pr_names.specs.Span.{Span}
use Rattle.pr_sets.specs.Spans.{has}

-- the set that begins at a clock
abbrev pub begins_at : List (ℕ × List Span) → ℕ → Option (List Span)
begins_at row c = lookup (λ k. is_eq (nat_cmp c k)) row

-- the dark set of the point at a clock: the last that begins up to it
unfoldable pub standing : (ℕ → Option (List Span)) → ℕ → Option (List Span)
standing begins zero = begins zero
standing begins (suc c) = option_or (begins (suc c)) (standing begins c)

-- the set lacks the name; where no set stands every name is dark
abbrev pub lacks : Option (List Span) → List ℕ → Bool
lacks None o = false
lacks (Some set) o = not (has set o)

-- the name is lit at the clock
abbrev pub is_lit_at : List (ℕ × List Span) → List ℕ → ℕ → Bool
is_lit_at row o c = lacks (standing (begins_at row) c) o

-- the name is dark at one of the clocks
abbrev pub IsDarkAt : List (ℕ × List Span) → ℕ → ℕ → List ℕ → Type 0
IsDarkAt row lo hi o = (c : ℕ) × (lo ≤ c) × (c ≤ hi) × (is_lit_at row o c ≡ false)

-- the set begins at the clock, or the one that stands before it has the same names
abbrev pub BeginsOrStands : (ℕ → Option (List Span)) → ℕ → List Span → Type 0
BeginsOrStands begins c set =
    (begins c ≡ Some set)
    ⊎ ((begins c ≡ None) × (was : List Span) × (standing begins (c - 1) ≡ Some was) × ((o : List ℕ) → IsName o → has was o ≡ has set o))

-- the set that begins, if any, keeps just the names of the target
abbrev pub IsNarrowed : List Span → Option (List Span) → Option (List Span) → Type 0
IsNarrowed target None now = now ≡ None
IsNarrowed target (Some was) now =
    (set : List Span) × (now ≡ Some set) × ((o : List ℕ) → IsName o → has set o ≡ (has was o && has target o))

-- the name is in one of the sets
abbrev pub is_in_any : List (List Span) → List ℕ → Bool
is_in_any sets o = list_any (λ set. has set o) sets

-- the name is one of these
abbrev pub is_any : List (List ℕ) → List ℕ → Bool
is_any names o = list_any (λ n. bytes_eq n o) names

-- names and sets of names
pub record Gathered : Type 0 where
  pub names : List (List ℕ)
  pub sets : List (List Span)

-- the name is one of them
abbrev pub is_gathered : Gathered → List ℕ → Bool
is_gathered g o = is_any g.names o || is_in_any g.sets o
