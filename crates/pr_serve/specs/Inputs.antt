-- How bytes are taken off an input, one by one.
use Rattle.std.specs.Prelude.{◌≡◌, ◌⊎◌, ◌≤◌, ◌+◌, ℕ, Bool, true, false, List, [], ◌∷◌, ◌++◌, length, Option, Some, None, Result, Ok, Err}
use Rattle.std.specs.Io.KnownBytes.{Consumes, IsAtEnd, prepend_known}
use Rattle.pr_ports.specs.Faults.{HasRisen}
use Rattle.pr_serve.specs.declared.stop.Stop.{Stop}
use Rattle.pr_serve.specs.declared.stop.Stop.TheVariants as stops

-- what was read ahead of what was taken, and how many bytes were taken
pub record Held : Type 0 where
  pub bytes : List ℕ
  pub taken : ℕ

-- an input at some moment: the bytes that its source has left, where it tells them, how often that has failed, and what
-- is held of it
pub record Input : Type 0 where
  pub left : Option (List ℕ)
  pub faults : ℕ
  pub held : Held

abbrev pub input : Option (List ℕ) → ℕ → Held → Input
input left faults held = record { left = left; faults = faults; held = held }

-- the bytes that are still to be taken
abbrev pub ahead : Input → Option (List ℕ)
ahead a = prepend_known a.held.bytes a.left

-- from a to b these bytes were taken
pub record Takes (a b : Input) (bytes : List ℕ) : Type 0 where
  pub ahead : Consumes (ahead a) (ahead b) bytes
  pub count : b.held.taken ≡ a.held.taken + length bytes
  pub rises : a.faults ≤ b.faults

-- all bytes were read and taken
pub record IsOver (a : Input) : Type 0 where
  pub left : IsAtEnd a.left
  pub held : a.held.bytes ≡ []

-- as many were taken as may be, and one more was read
pub record IsFull (a : Input) : Type 0 where
  pub taken : a.held.taken ≡ 67108864
  pub held : 1 ≤ length a.held.bytes

-- the source failed, where nothing was held
pub record HasFailed (a b : Input) : Type 0 where
  pub rises : HasRisen a.faults b.faults
  pub held : b.held.bytes ≡ []

-- what comes of taking one byte
abbrev pub IsNextByte : Input → Input → Result (Option ℕ) Stop → Type 0
IsNextByte a b (Ok (Some byte)) = Takes a b (byte ∷ [])
IsNextByte a b (Ok None) = Takes a b [] × IsOver b
IsNextByte a b (Err stops.Failed) = Takes a b [] × HasFailed a b
IsNextByte a b (Err stops.TooLarge) = Takes a b [] × IsFull b
IsNextByte a b (Err _) = ⊥

-- what comes of a read where nothing was held
abbrev pub IsFilled : Input → Input → Result Bool Stop → Type 0
IsFilled a b (Ok filled) = Takes a b [] × (filled ≡ true → 1 ≤ length b.held.bytes) × (filled ≡ false → IsOver b)
IsFilled a b (Err stops.Failed) = Takes a b [] × HasFailed a b
IsFilled a b (Err _) = ⊥

-- ---- texts that may stand at a place

module _ (IsText : List ℕ → Type 0) where
  -- none begins so, whatever follows
  abbrev pub NoneBegins : List ℕ → Type 0
  NoneBegins bytes = (text x y : List ℕ) → IsText text → text ++ x ≡ bytes ++ y → ⊥

  -- none stands at the front
  abbrev pub NoneStands : List ℕ → Type 0
  NoneStands bytes = (text x : List ℕ) → IsText text → text ++ x ≡ bytes → ⊥

-- why none of these texts was taken, where these bytes were; a text is under way as far as it is in
module _ (IsText IsUnderWay : List ℕ → Type 0) where
  abbrev pub Stops : Input → Input → List ℕ → Stop → Type 0
  Stops a b bytes stops.Bad = (1 ≤ length bytes) × (NoneBegins IsText bytes ⊎ (NoneStands IsText bytes × IsOver b))
  Stops a b bytes stops.Failed = NoneStands IsText bytes × HasFailed a b
  Stops a b bytes stops.TooLarge = IsUnderWay bytes × NoneStands IsText bytes × IsFull b
  Stops a b bytes stops.NoMemory = Unit {0}
