-- What the calls of a disk do, and what a stop may leave of it.
use Rattle.std.specs.Prelude.{◌≡◌, ◌⊎◌, ◌<◌, ◌≤◌, ◌+◌, ◌^◌, ◌↔◌, ℕ, zero, suc, Option, Some, List, ◌++◌, length, max, min, take, drop, Result, Ok, Err, IfOk, IsErrOf, OnErr, OnOk}
use Rattle.pr_ports.specs.Faults.{HasRisen}
use Rattle.pr_keep.specs.declared.disk.DiskFault.{DiskFault}
use Rattle.pr_keep.specs.declared.disk.DiskFault.TheVariants.{Failed}

-- the bytes that it reads as, those that it read as after its last sync that answered Ok, the number of its calls
-- that answered Ok, and of its faults; and, where that is told, after how many good calls it fails each
pub record State : Type 0 where
  pub reads : List ℕ
  pub synced : List ℕ
  pub good : ℕ
  pub faults : ℕ
  pub lasts : Option ℕ

-- ---- counts

-- a count that stands still at the greatest number
abbrev pub counted : ℕ → ℕ → ℕ
counted count zero = count
counted count (suc more) = min (count + suc more) 18446744073709551615

-- one call more is counted if it answers Ok
abbrev pub counted_call : {T : Type 0} → ℕ → Result T DiskFault → ℕ
counted_call count (Ok answer) = counted count 1
counted_call count (Err fault) = count

-- it fails exactly after so many good calls, and counts a fault only then
pub record StopsAt {T : Type 0} (n : ℕ) (old new : State) (result : Result T DiskFault) : Type 0 where
  pub failed : IsErrOf result Failed ↔ (old.good ≡ n)
  pub quiet : (IsErrOf result Failed → ⊥) → new.faults ≡ old.faults

pub record HasAnswered {T : Type 0} (old new : State) (result : Result T DiskFault) : Type 0 where
  pub good : new.good ≡ counted_call old.good result
  pub faults : old.faults ≤ new.faults
  pub failed : IsErrOf result Failed → HasRisen old.faults new.faults
  pub lasts : new.lasts ≡ old.lasts
  pub stops : (n : ℕ) → old.lasts ≡ Some n → StopsAt n old new result

-- ---- calls

-- these are bytes from this place on, and there are none only at the end
pub record IsFrom (file : List ℕ) (at : ℕ) (buf : List ℕ) (count : ℕ) : Type 0 where
  pub fits : count ≤ length buf
  pub bytes : take count buf ≡ take count (drop at file)
  pub end : count ≡ 0 → 0 < length buf → length file ≤ at

pub record HasRead (old new : State) (at : ℕ) (buf : List ℕ) (result : Result ℕ DiskFault) : Type 0 where
  pub answered : HasAnswered old new result
  pub reads : new.reads ≡ old.reads
  pub synced : new.synced ≡ old.synced
  pub short : length old.reads < 2 ^ 64
  pub bytes : IfOk result (IsFrom old.reads at buf)

-- the bytes with this piece over what was at the place, and past the end
abbrev pub written : ℕ → List ℕ → List ℕ → List ℕ
written at piece file = take at file ++ (piece ++ drop (at + length piece) file)

pub record HasWritten {T : Type 0} (old new : State) (at : ℕ) (piece : List ℕ) (result : Result T DiskFault) : Type 0 where
  pub answered : HasAnswered old new result
  pub reads : OnOk result (new.reads ≡ written at piece old.reads)
  pub synced : new.synced ≡ old.synced

pub record HasSynced {T : Type 0} (old new : State) (result : Result T DiskFault) : Type 0 where
  pub answered : HasAnswered old new result
  pub reads : new.reads ≡ old.reads
  pub ok : OnOk result (new.synced ≡ old.reads)
  pub err : OnErr result (new.synced ≡ old.synced)

-- ---- images: what a stop may leave

-- after a write of so many bytes: any bytes in the range and past the old end, the same elsewhere
pub record IsTorn (at count : ℕ) (old new : List ℕ) : Type 0 where
  pub before : take at new ≡ take at old
  pub after : drop (at + count) new ≡ drop (at + count) old
  pub no_shorter : length old ≤ length new
  pub no_longer : length new ≤ max (length old) (at + count)

-- each new image is an old one after a step
abbrev pub Follows : (List ℕ → List ℕ → Type 0) → (List ℕ → Type 0) → (List ℕ → Type 0) → Type 0
Follows step old new = (c : List ℕ) → new c → (d : List ℕ) × old d × step d c

-- no image is new
abbrev pub NoneNew : (List ℕ → Type 0) → (List ℕ → Type 0) → Type 0
NoneNew old new = (c : List ℕ) → new c → old c

-- nothing is pending: the one image is this
abbrev pub Only : List ℕ → (List ℕ → Type 0) → Type 0
Only file images = (c : List ℕ) → images c → c ≡ file

-- ---- moments

-- time goes on: an image since t was one before, or is one now
pub record Elapses (before now : ℕ) (past since : ℕ → List ℕ → Type 0) (images : List ℕ → Type 0) : Type 0 where
  pub later : before ≤ now
  pub nothing_else : (t : ℕ) (c : List ℕ) → t ≤ before → since t c → past t c ⊎ images c
  pub keeps : (t : ℕ) (c : List ℕ) → t ≤ before → past t c → since t c

-- at every moment from the old one to the new one each image has P
pub record LeavesOnly {D : Type 0} (moment : D → ℕ) (images_since : D → ℕ → List ℕ → Type 0) (old new : D) (P : List ℕ → Type 0) : Type 0 where
  pub later : moment old ≤ moment new
  pub each : (c : List ℕ) → images_since new (moment old) c → P c
  -- for a run that began earlier
  pub before : (t : ℕ) (c : List ℕ) → t ≤ moment old → images_since new t c → images_since old t c ⊎ P c
