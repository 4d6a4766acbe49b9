-- Lines at which jobs meet, each with a bit of a word.
use Rattle.std.specs.Prelude.{◌≡◌, ◌<◌, ◌==◌, ◌+◌, ◌*◌, ◌/◌, ◌%◌, ◌^◌, if◌then◌else◌, ℕ, zero, suc, Bool, IsTrue, List, [], ◌∷◌, length, slice_index}

-- the lines of a gate, and how often a call looks whether all were reached
pub record Meeting : Type 0 where
  pub lines : List ℕ
  pub looks : ℕ

-- a bit for each line, which is 1 just where it is this one; the first line has the lowest
abbrev pub bits_of : List ℕ → ℕ → ℕ
bits_of [] line = 0
bits_of (own ∷ lines) line = 2 * bits_of lines line + (if own == line then 1 else 0)

-- bit k of a word is set
abbrev pub is_set : ℕ → ℕ → Bool
is_set word k = (word / 2 ^ k) % 2 == 1

-- how many of the first bits of a word are set
abbrev pub count_set : ℕ → ℕ → ℕ
count_set word zero = 0
count_set word (suc k) = count_set word k + (if is_set word k then 1 else 0)

-- all of the first bits of a word are set
abbrev pub AreSet : ℕ → ℕ → Type 0
AreSet word n = (k : ℕ) → k < n → IsTrue (is_set word k)

-- bit k is set just where line k is this one
abbrev pub IsMarked : List ℕ → ℕ → ℕ → Type 0
IsMarked lines line word = (k : ℕ) → k < length lines → is_set word k ≡ (slice_index lines k == line)
