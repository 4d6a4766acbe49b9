-- Sources and sinks in memory, which fail at the calls that they are told.
use Rattle.std.specs.Prelude.{ℕ, List, ◌+◌, ◌-◌, ◌^◌, ◌≡◌, length, min}

-- the number of a call after this one, which stands still at the last value of a counter
abbrev pub next_call : ℕ → ℕ
next_call calls = min (calls + 1) (2 ^ 64 - 1)

-- what is left of the bytes, the most that a call gives, the calls that fail, the calls made and the faults so far
pub record Giving : Type 0 where
  pub left : List ℕ
  pub piece : ℕ
  pub fail : List ℕ
  pub calls : ℕ
  pub faults : ℕ

-- the bytes taken, the room left, the most that a call takes, the calls that fail, the calls made and the faults so far
pub record Taking : Type 0 where
  pub text : List ℕ
  pub room : ℕ
  pub piece : ℕ
  pub fail : List ℕ
  pub calls : ℕ
  pub faults : ℕ

-- a call leaves what it was told, and counts itself
pub record Remains (a b : Giving) : Type 0 where
  pub piece : b.piece ≡ a.piece
  pub fail : b.fail ≡ a.fail
  pub calls : b.calls ≡ next_call a.calls

-- a call leaves what it was told, and counts itself; the room falls by what the text grew
pub record Holds (a b : Taking) : Type 0 where
  pub piece : b.piece ≡ a.piece
  pub fail : b.fail ≡ a.fail
  pub calls : b.calls ≡ next_call a.calls
  pub room : b.room + length b.text ≡ a.room + length a.text
