-- What stands at the front of bytes: a frame, less than a frame, or what no frame begins with.
use Rattle.std.specs.Prelude.{◌≡◌, ◌≢◌, ◌⊎◌, ◌≤◌, ◌<◌, ◌+◌, ℕ, List, length, take, drop, slice_index}
use Rattle.std.specs.Int.{w64, from_be_bytes}
use Rattle.pr_inval.specs.declared.msg.Msg.{Msg}
use Rattle.pr_wire.specs.declared.format.Format.{Format}
use Rattle.pr_wire.specs.Messages.{HasSpelling}
use Rattle.pr_wire.specs.Spelling.{spelling}

-- the bytes are the frame of the message in this format
abbrev pub IsFrame : Format → Msg → List ℕ → Type 0
IsFrame f m bytes = HasSpelling f m × (bytes ≡ spelling f m)

-- the length of the content that a frame's head gives, behind the format
unfoldable pub said_length : List ℕ → ℕ
said_length bytes = from_be_bytes w64 (take 8 (drop 1 bytes))

-- the first byte is in, and is no format
pub record HasNoFormat (bytes : List ℕ) : Type 0 where
  pub some : 1 ≤ length bytes
  pub not_one : slice_index bytes 0 ≢ 1
  pub not_two : slice_index bytes 0 ≢ 2

-- the head is in, and the length that it gives is above the limit
pub record IsTooLong (limit : ℕ) (bytes : List ℕ) : Type 0 where
  pub head : 9 ≤ length bytes
  pub above : limit < said_length bytes

-- the frame is in
pub record IsWhole (bytes : List ℕ) : Type 0 where
  pub head : 9 ≤ length bytes
  pub all : 9 + said_length bytes ≤ length bytes

unfoldable pub frame_of : List ℕ → List ℕ
frame_of bytes = take (9 + said_length bytes) bytes

abbrev pub IsNoSpelling : List ℕ → Type 0
IsNoSpelling frame = (f : Format) (m : Msg) → HasSpelling f m → frame ≡ spelling f m → ⊥

-- the frame at the front is none of a message, as far as it is in
abbrev pub IsBad : ℕ → List ℕ → Type 0
IsBad limit bytes = HasNoFormat bytes ⊎ (IsTooLong limit bytes ⊎ (IsWhole bytes × IsNoSpelling (frame_of bytes)))

-- the frame at the front is not in, and what is in of it is not bad
pub record IsPartial (limit : ℕ) (bytes : List ℕ) : Type 0 where
  pub format : ¬ HasNoFormat bytes
  pub short : ¬ IsTooLong limit bytes
  pub part : ¬ IsWhole bytes
