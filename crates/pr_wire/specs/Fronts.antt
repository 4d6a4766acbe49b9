-- What the functions on a frame find at the front of bytes.
use Rattle.std.specs.Prelude.{◌≡◌, ◌⊎◌, ◌≤◌, ◌+◌, ℕ, List, ◌++◌, length, drop, slice_index}
use Rattle.pr_inval.specs.declared.msg.Msg.{Msg}
use Rattle.pr_wire.specs.declared.format.Format.{Format}
use Rattle.pr_wire.specs.declared.frame.Head.{Head}
use Rattle.pr_wire.specs.declared.frame.Head.TheVariants as heads
use Rattle.pr_wire.specs.Frames.{HasNoFormat, IsPartial, IsTooLong, said_length}
use Rattle.pr_wire.specs.Messages.{HasSpelling}
use Rattle.pr_wire.specs.Spelling.{content, format_byte, spelling}

-- bytes that begin with a frame of this format and so many bytes
pub record IsFramed (limit : ℕ) (bytes : List ℕ) (f : Format) (len : ℕ) : Type 0 where
  pub format : slice_index bytes 0 ≡ format_byte f
  pub said : len ≡ 9 + said_length bytes
  pub all : len ≤ length bytes
  pub short : said_length bytes ≤ limit

abbrev pub HeadIs : ℕ → List ℕ → Head → Type 0
HeadIs limit bytes heads.Partial = IsPartial limit bytes
HeadIs limit bytes heads.Refused = HasNoFormat bytes ⊎ IsTooLong limit bytes
HeadIs limit bytes (heads.Whole f len) = IsFramed limit bytes f len

-- bytes that begin with a spelling of the message
pub record IsSpelled (limit : ℕ) (bytes : List ℕ) (m : Msg) (len : ℕ) (f : Format) : Type 0 where
  pub spelled : HasSpelling f m
  pub short : length (content f m) ≤ limit
  pub front : bytes ≡ spelling f m ++ drop len bytes
  pub size : len ≡ length (spelling f m)
  pub all : len ≤ length bytes
