-- What a puller finds at a place of its input.
use Rattle.std.specs.Prelude.{◌≡◌, ◌⊎◌, ◌<◌, ◌^◌, ℕ, List, [], ◌∷◌, Contains, length, Result, Ok, Err}
use Rattle.pr_inval.specs.declared.msg.Msg.{Msg}
use Rattle.pr_story.specs.Counts.{HasKind}
use Rattle.pr_wire.specs.declared.format.Format.{Format}
use Rattle.pr_wire.specs.Frames.{IsPartial}
use Rattle.pr_wire.specs.Messages.{HasSpelling}
use Rattle.pr_wire.specs.Spelling.{content, spelling}
use Rattle.pr_serve.specs.Inputs.{Input, IsOver, Stops, Takes}
use Rattle.pr_serve.specs.declared.framing.Part.{Part}
use Rattle.pr_serve.specs.declared.framing.Part.TheVariants as parts
use Rattle.pr_serve.specs.declared.stop.Stop.{Stop}

-- a frame of the message, whose content's length fits its field
pub record IsFramed (f : Format) (m : Msg) : Type 0 where
  pub spelled : HasSpelling f m
  pub fits : length (content f m) < 2 ^ 64

abbrev pub IsFrame : List ℕ → Type 0
IsFrame text = (f : Format) × (m : Msg) × IsFramed f m × (text ≡ spelling f m)

-- what is in of a frame that is not in, of any length
abbrev pub IsFrameUnderWay : List ℕ → Type 0
IsFrameUnderWay bytes = IsPartial 18446744073709551615 bytes

-- so many nodes are declared, and the message is of one of these streams
pub record IsWanted (nodes : ℕ) (streams : List ℕ) (m : Msg) : Type 0 where
  pub names : HasKind nodes m.kind
  pub stream : Contains streams m.stream

-- what may stand at a place: an end byte, or the frame of a message that is wanted
abbrev pub IsPart : ℕ → List ℕ → List ℕ → Type 0
IsPart nodes streams text =
    (text ≡ 0 ∷ []) ⊎ ((f : Format) × (m : Msg) × IsFramed f m × IsWanted nodes streams m × (text ≡ spelling f m))

-- what comes of reading a frame whose first byte was taken
abbrev pub IsRestOfFrame : ℕ → Input → Input → Result Msg Stop → Type 0
IsRestOfFrame first a b (Ok m) = (f : Format) × (bytes : List ℕ) × IsFramed f m × (first ∷ bytes ≡ spelling f m) × Takes a b bytes
IsRestOfFrame first a b (Err stop) = (bytes : List ℕ) × Takes a b bytes × Stops IsFrame IsFrameUnderWay a b (first ∷ bytes) stop

-- what was found at the place
abbrev pub HasFound : ℕ → List ℕ → Input → Input → Part → Type 0
HasFound nodes streams a b parts.Over = Takes a b [] × IsOver b
HasFound nodes streams a b parts.EndByte = Takes a b (0 ∷ [])
HasFound nodes streams a b (parts.Message m) =
    (f : Format) × IsFramed f m × IsWanted nodes streams m × Takes a b (spelling f m)

abbrev pub IsFoundPart : ℕ → List ℕ → Input → Input → Result Part Stop → Type 0
IsFoundPart nodes streams a b (Ok part) = HasFound nodes streams a b part
IsFoundPart nodes streams a b (Err stop) =
    (bytes : List ℕ) × Takes a b bytes × Stops (IsPart nodes streams) IsFrameUnderWay a b bytes stop
