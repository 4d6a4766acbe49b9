-- Sets of clocks as ranges that lie apart.
use Rattle.std.specs.Prelude.{◌≡◌, ◌≤◌, ◌<◌, ◌+◌, ◌⊎◌, ℕ, List, [], Option, Some}
use Rattle.std.specs.Map.{lookup}
use Rattle.std.specs.Ordering.{is_eq, nat_cmp}

-- the end of the range that begins here
abbrev pub end_at : List (ℕ × ℕ) → ℕ → Option ℕ
end_at ranges s = lookup (λ k. is_eq (nat_cmp s k)) ranges

-- a range has the clock
abbrev pub Has : (ℕ → Option ℕ) → ℕ → Type 0
Has end c = (s : ℕ) × (e : ℕ) × (end s ≡ Some e) × (s ≤ c) × (c ≤ e)

-- the ranges are of clocks, none is empty, and between two of them a clock lies that is in none
pub record AreApart (end : ℕ → Option ℕ) : Type 0 where
  pub some : (s e : ℕ) → end s ≡ Some e → (1 ≤ s) × ((s ≤ e) × (e ≤ 4611686018427387903))
  pub gap : (s e t f : ℕ) → end s ≡ Some e → end t ≡ Some f → s < t → e + 1 < t

-- the clock is in one of the ranges
abbrev pub IsIn : List (ℕ × ℕ) → ℕ → Type 0
IsIn ranges c = Has (end_at ranges) c

-- a set of clocks: those from 1 up to one, and those in ranges
pub record Run : Type 0 where
  pub last : ℕ
  pub others : List (ℕ × ℕ)

abbrev pub no_clocks : Run
no_clocks = record { last = 0; others = [] }

abbrev pub HasClock : Run → ℕ → Type 0
HasClock clocks c = ((1 ≤ c) × (c ≤ clocks.last)) ⊎ IsIn clocks.others c
