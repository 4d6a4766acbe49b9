-- Counts of faults, which stand still at the last value of a counter.
use Rattle.std.specs.Prelude.{◌≡◌, ◌⊎◌, ◌<◌, ◌≤◌, ◌^◌, ◌-◌, ℕ, Result, IfOk}

-- a count rose: it is greater than before, or stands at its end
abbrev pub HasRisen : ℕ → ℕ → Type 0
HasRisen before now = (before < now) ⊎ (now ≡ 2 ^ 64 - 1)

-- at most so many bytes are given
abbrev pub GivesAtMost : {E : Type 0} → Result ℕ E → ℕ → Type 0
GivesAtMost r most = IfOk r (λ n. n ≤ most)
