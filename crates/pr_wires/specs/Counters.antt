-- Counters, which stand still at their last value.
use Rattle.std.specs.Prelude.{◌+◌, ◌-◌, ◌^◌, ◌==◌, ◌&&◌, if◌then◌else◌, ℕ, min, nat_lt}

-- so many more
abbrev pub more_by : ℕ → ℕ → ℕ
more_by n k = min (n + k) (2 ^ 64 - 1)

-- one more
abbrev pub one_more : ℕ → ℕ
one_more n = more_by n 1

-- one end more where a call was asked for something and moved nothing
abbrev pub ends_after : ℕ → ℕ → ℕ → ℕ
ends_after ends moved asked = (if moved == 0 && nat_lt 0 asked then one_more ends else ends)
