-- The merged order of lists of times, the parts. A place is a part's number, and a place in that part.
use Rattle.std.specs.Prelude.{ℕ, List, [], ◌≡◌, ◌≢◌, ◌⊎◌, ◌<◌, ◌↔◌, AllPairs, Contains, length, slice_index, slice_index_or}

-- the times of part n; of no part, none
abbrev pub part_at : List (List ℕ) → ℕ → List ℕ
part_at parts n = slice_index_or parts n []

abbrev pub IsPlace : List (List ℕ) → ℕ × ℕ → Type 0
IsPlace parts p = p.1 < length (part_at parts p.0)

abbrev pub time_at : List (List ℕ) → ℕ × ℕ → ℕ
time_at parts p = slice_index (part_at parts p.0) p.1

-- by time, then part
abbrev pub IsEarlier : List (List ℕ) → ℕ × ℕ → ℕ × ℕ → Type 0
IsEarlier parts p q = (time_at parts p < time_at parts q) ⊎ ((time_at parts p ≡ time_at parts q) × (p.0 < q.0))

-- the list has the places of the parts and nothing else, each place earlier than those after it, so that none stands twice
pub record IsMerged (parts : List (List ℕ)) (places : List (ℕ × ℕ)) : Type 0 where
  pub each : (p : ℕ × ℕ) → Contains places p ↔ IsPlace parts p
  pub ordered : AllPairs (IsEarlier parts) places

-- the parts determine the list
abbrev pub OneMerged : Type 0
OneMerged = (parts : List (List ℕ)) (a b : List (ℕ × ℕ)) → IsMerged parts a → IsMerged parts b → a ≡ b

abbrev pub NoneTwice : Type 0
NoneTwice = (parts : List (List ℕ)) (places : List (ℕ × ℕ)) → IsMerged parts places → AllPairs (λ p q. p ≢ q) places
