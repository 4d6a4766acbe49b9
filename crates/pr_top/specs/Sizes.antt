-- How large a script may be.
use Rattle.std.specs.Prelude.{◌≡◌, ◌⊎◌, ◌≤◌, ◌<◌, ◌-◌, ℕ, List, ◌==◌, count_by, length, take}
use Rattle.pr_top.specs.declared.size.Size.{Size}

-- how many lines have an end
abbrev pub line_ends : List ℕ → ℕ
line_ends bytes = count_by (λ b. b == 10) bytes

-- all but the last byte
abbrev pub but_last : List ℕ → List ℕ
but_last bytes = take (length bytes - 1) bytes

-- there are more than 4,194,304 bytes, or one stands behind the end of line 100,000
abbrev pub IsTooLarge : List ℕ → Type 0
IsTooLarge bytes = (4194304 < length bytes) ⊎ (100000 ≤ line_ends (but_last bytes))

-- this is the size of these bytes, which are not too many
pub record IsSizeOf (s : Size) (bytes : List ℕ) : Type 0 where
  pub length_is : s.bytes ≡ length bytes
  pub ends_are : s.ends ≡ line_ends bytes
  pub fits : ¬ IsTooLarge bytes
