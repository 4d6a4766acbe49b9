-- What a feed stands for, and what it gives.
use Rattle.std.specs.Prelude.{◌≡◌, ◌≤◌, ◌<◌, ◌+◌, ℕ, List, [], ◌∷◌, ◌++◌, length, min, slice_index}
use Rattle.pr_inval.specs.declared.msg.Msg.{Msg}
use Rattle.pr_wire.specs.declared.format.Format.{Format}
use Rattle.pr_wire.specs.declared.format.Format.TheVariants.{Two}
use Rattle.pr_wire.specs.declared.next.Next.{Next}
use Rattle.pr_wire.specs.declared.next.Next.TheVariants.{Message, More, Bad}
use Rattle.pr_wire.specs.Messages.{HasSpelling}
use Rattle.pr_wire.specs.Spelling.{content, spelling}
use Rattle.pr_wire.specs.Frames.{IsBad, IsFrame, IsPartial}

abbrev pub AreBytes : List ℕ → Type 0
AreBytes bytes = (i : ℕ) → slice_index bytes i < 256

-- the bytes that were pushed and not given, and how many were given, up to the greatest count
pub record Fed : Type 0 where
  pub limit : ℕ
  pub rest : List ℕ
  pub given : ℕ

abbrev pub new_feed : ℕ → Fed
new_feed limit = record { limit = limit; rest = []; given = 0 }

abbrev pub pushed : Fed → List ℕ → Fed
pushed a piece = record { limit = a.limit; rest = a.rest ++ piece; given = a.given }

-- a count that stands still at the greatest one
abbrev pub counted : ℕ → ℕ → ℕ
counted given len = min (given + len) 18446744073709551615

-- a spelling of the message was taken off the front of the rest
pub record HasGiven (a b : Fed) (f : Format) (m : Msg) : Type 0 where
  pub spelled : HasSpelling f m
  pub short : length (content f m) ≤ a.limit
  pub front : a.rest ≡ spelling f m ++ b.rest
  pub given : b.given ≡ counted a.given (length (spelling f m))
  pub limit : b.limit ≡ a.limit

abbrev pub HasAnswered : Fed → Fed → Next → Type 0
HasAnswered a b (Message m) = (f : Format) × HasGiven a b f m
HasAnswered a b More = (b ≡ a) × IsPartial a.limit a.rest
HasAnswered a b (Bad at) = (b ≡ a) × (at ≡ a.given) × IsBad a.limit a.rest

-- the feed is one of any frame, and what it holds is just the frame of the message in format 2
pub record HoldsJust (a : Fed) (m : Msg) : Type 0 where
  pub limit : a.limit ≡ 18446744073709551615
  pub frame : IsFrame Two m a.rest

-- ---- runs

-- a piece is pushed, or a message given
pub data Event : Type 0 where
  Took : List ℕ → Event
  Gave : Format → Msg → Event

abbrev pub Follows : Fed → Event → Fed → Type 0
Follows a (Took piece) b = b ≡ pushed a piece
Follows a (Gave f m) b = HasGiven a b f m

abbrev pub Runs : Fed → List Event → Fed → Type 0
Runs a [] b = b ≡ a
Runs a (e ∷ es) b = (c : Fed) × Follows a e c × Runs c es b

-- the bytes that were pushed, and the spellings of what was given
abbrev pub bytes_taken : List Event → List ℕ
bytes_taken [] = []
bytes_taken (Took piece ∷ es) = piece ++ bytes_taken es
bytes_taken (Gave f m ∷ es) = bytes_taken es

abbrev pub bytes_given : List Event → List ℕ
bytes_given [] = []
bytes_given (Took piece ∷ es) = bytes_given es
bytes_given (Gave f m ∷ es) = spelling f m ++ bytes_given es
