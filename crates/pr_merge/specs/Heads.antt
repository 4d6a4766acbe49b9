-- The heads of the parts, of each the first place that is not yet taken, and the tournament among them.
use Rattle.std.specs.Prelude.{ℕ, List, ◌≡◌, ◌⊎◌, ◌<◌, ◌+◌, ◌/◌, zero, suc, slice_index}
use Rattle.pr_merge.specs.Merged.{IsPlace, IsEarlier, time_at}

-- part n and how many of its places are taken
abbrev pub head : List ℕ → ℕ → ℕ × ℕ
head next n = (n, slice_index next n)

-- the part has a place that is not taken
abbrev pub IsHead : List (List ℕ) → List ℕ → ℕ → Type 0
IsHead parts next n = IsPlace parts (head next n)

abbrev pub head_time : List (List ℕ) → List ℕ → ℕ → ℕ
head_time parts next n = time_at parts (head next n)

-- where part m has a head, part n has one, which is m's own or earlier
abbrev pub IsNoLater : List (List ℕ) → List ℕ → ℕ → ℕ → Type 0
IsNoLater parts next n m = IsHead parts next m → IsHead parts next n × ((n ≡ m) ⊎ IsEarlier parts (head next n) (head next m))

-- part n has a head, and no other part has an earlier one
abbrev pub IsEarliest : List (List ℕ) → List ℕ → ℕ → Type 0
IsEarliest parts next n = IsHead parts next n × ((m : ℕ) → IsNoLater parts next n m)

-- ---- the tournament: a tree of nodes 1 to 63, where node m has the children 2 m and 2 m + 1, and 32 + p is the leaf of part p

abbrev pub half_times : ℕ → ℕ → ℕ
half_times zero m = m
half_times (suc k) m = half_times k m / 2

-- the leaf of part p is node m, or under it
abbrev pub IsUnder : ℕ → ℕ → Type 0
IsUnder m p = (k : ℕ) × (half_times k (32 + p) ≡ m)

-- part w is under node m, and no part under it has an earlier head
pub record IsWinner (parts : List (List ℕ)) (next : List ℕ) (m w : ℕ) : Type 0 where
  pub known : w < 32
  pub under : IsUnder m w
  pub first : (p : ℕ) → p < 32 → IsUnder m p → IsNoLater parts next w p

-- each node with a greater number than this one has its winner
abbrev pub IsPlayedAbove : List (List ℕ) → List ℕ → List ℕ → ℕ → Type 0
IsPlayedAbove parts next winners node = (m : ℕ) → node < m → m < 64 → IsWinner parts next m (slice_index winners m)

-- so has each node that part p is not under
pub record IsPlayedBut (parts : List (List ℕ)) (next winners : List ℕ) (node p : ℕ) : Type 0 where
  pub above : IsPlayedAbove parts next winners node
  pub beside : (m : ℕ) → 0 < m → m < 64 → ¬ IsUnder m p → IsWinner parts next m (slice_index winners m)
