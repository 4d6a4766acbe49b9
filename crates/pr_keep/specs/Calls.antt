-- What the calls on a kept file do.
use Rattle.std.specs.Prelude.{◌≡◌, ◌≢◌, ◌⊎◌, ◌<◌, ◌≤◌, ◌+◌, ◌^◌, ℕ, List, [], ◌∷◌, ◌++◌, length, take, drop, Option, Some, None, Result, Ok, Err, IsErrOf}
use Rattle.pr_ports.specs.Faults.{HasRisen}
use Rattle.pr_story.specs.declared.entry.Entry.{Entry}
use Rattle.pr_wire.specs.Spelling.{eight}
use Rattle.pr_keep.specs.declared.fault.KeepFault.{KeepFault}
use Rattle.pr_keep.specs.declared.fault.KeepFault.TheVariants.{Failed, NoMemory, Damaged}
use Rattle.pr_keep.specs.declared.records.Gate.{Gate}
use Rattle.pr_keep.specs.declared.records.Gate.TheVariants as gates
use Rattle.pr_keep.specs.declared.records.Record.{Record}
use Rattle.pr_keep.specs.Disk.{IsTorn, LeavesOnly, NoneNew, Only, State, counted, written}
use Rattle.pr_keep.specs.Entries.{IsKeepable}
use Rattle.pr_keep.specs.Files.{StandsFor, front, record_text}

-- ---- faults

-- the disk failed only where its faults rose, and where it stops
pub record HasCause {T : Type 0} (old new : State) (result : Result T KeepFault) : Type 0 where
  pub later : old.faults ≤ new.faults
  pub failed : IsErrOf result Failed → HasRisen old.faults new.faults
  pub lasts : new.lasts ≡ old.lasts
  pub stopped : (n : ℕ) → old.lasts ≡ Some n → IsErrOf result Failed → new.good ≡ n
  pub quiet : (n : ℕ) → old.lasts ≡ Some n → (IsErrOf result Failed → ⊥) → new.faults ≡ old.faults

-- a call that succeeds, and one that fails so
abbrev pub succeeds : Result ℕ KeepFault
succeeds = Ok 0

abbrev pub fails : KeepFault → Result ℕ KeepFault
fails fault = Err fault

abbrev pub IsNotDamaged : KeepFault → Type 0
IsNotDamaged Failed = Unit {0}
IsNotDamaged NoMemory = Unit {0}
IsNotDamaged (Damaged at) = ⊥

abbrev pub IsDamagedAt : (ℕ → Type 0) → KeepFault → Type 0
IsDamagedAt damaged Failed = Unit {0}
IsDamagedAt damaged NoMemory = Unit {0}
IsDamagedAt damaged (Damaged at) = damaged at

-- fewer calls than these answered Ok
pub record HasCountedBelow (calls before now : ℕ) : Type 0 where
  pub count : ℕ
  pub below : count < calls
  pub good : now ≡ counted before count

-- ---- reading

-- nothing was written: it reads as before, and a stop at any moment leaves what a stop before it might have left
pub record IsUntouched {D : Type 0} (state : D → State) (images : D → List ℕ → Type 0) (moment : D → ℕ) (images_since : D → ℕ → List ℕ → Type 0) (old new : D) : Type 0 where
  pub reads : (state new).reads ≡ (state old).reads
  pub synced : (state new).synced ≡ (state old).synced
  pub none_new : NoneNew (images old) (images new)
  pub moments : LeavesOnly moment images_since old new (images old)

-- so many bytes from a place on were added
pub record IsPiece (file : List ℕ) (at most : ℕ) (old new : List ℕ) (count : ℕ) : Type 0 where
  pub few : count ≤ most
  pub bytes : new ≡ old ++ take count (drop at file)
  pub size : length new ≡ length old + count
  pub within : at + count ≤ length file
  pub short : length file < 2 ^ 64
  pub end : count ≡ 0 → length file ≤ at

-- what the 9 bytes at a gate say, or fewer at the end
abbrev pub GateIs : List ℕ → Gate → Type 0
GateIs bytes gates.Missing = (bytes ≡ []) ⊎ ((behind : List ℕ) × (bytes ≡ 1 ∷ behind) × (length behind < 8))
GateIs bytes gates.Closed = (gate : ℕ) × (behind : List ℕ) × (gate ≢ 1) × (bytes ≡ gate ∷ behind)
GateIs bytes (gates.Open len) = bytes ≡ 1 ∷ eight len

-- bytes that begin with a closed gate
pub record IsClosed (rest : List ℕ) : Type 0 where
  pub gate : ℕ
  pub behind : List ℕ
  pub closed : gate ≢ 1
  pub is : rest ≡ gate ∷ behind

-- bytes that begin with neither a closed gate nor a record
pub record IsNothing (rest : List ℕ) : Type 0 where
  pub no_gate : (gate : ℕ) (behind : List ℕ) → gate ≢ 1 → rest ≢ gate ∷ behind
  pub no_record : (e : ℕ × Entry) (behind : List ℕ) → IsKeepable e → rest ≢ record_text e ++ behind

-- bytes that begin with the record, with the place behind it
pub record IsRecord (rest : List ℕ) (at : ℕ) (r : Record) : Type 0 where
  pub keepable : IsKeepable r.entry
  pub behind : List ℕ
  pub is : rest ≡ record_text r.entry ++ behind
  pub next : r.next ≡ at + length (record_text r.entry)

-- what stands at a place
abbrev pub PlaceIs : List ℕ → ℕ → Result (Option Record) KeepFault → Type 0
PlaceIs rest at (Ok None) = IsClosed rest
PlaceIs rest at (Ok (Some r)) = IsRecord rest at r
PlaceIs rest at (Err fault) = IsDamagedAt (λ place. (place ≡ at) × IsNothing rest) fault

abbrev pub RecordIs : List ℕ → ℕ → Result Record KeepFault → Type 0
RecordIs rest at (Ok r) = IsRecord rest at r
RecordIs rest at (Err fault) = IsDamagedAt (λ place. (place ≡ at) × IsNothing rest) fault

-- the entries stand before the closed gate at this place
pub record StandsUpTo (file : List ℕ) (es : List (ℕ × Entry)) (gate : ℕ) : Type 0 where
  pub stands : StandsFor file es
  pub place : gate ≡ length (front es)

-- it was at most synced: it reads as before, and a stop at any moment leaves what a stop before it might have left
pub record IsOpened {D : Type 0} (state : D → State) (images : D → List ℕ → Type 0) (moment : D → ℕ) (images_since : D → ℕ → List ℕ → Type 0) (old new : D) : Type 0 where
  pub reads : (state new).reads ≡ (state old).reads
  pub none_new : NoneNew (images old) (images new)
  pub moments : LeavesOnly moment images_since old new (images old)

-- ---- writing

-- nothing is pending
pub record IsSettledAt {D : Type 0} (state : D → State) (images : D → List ℕ → Type 0) (disk : D) : Type 0 where
  pub only : Only (state disk).reads (images disk)
  pub synced : (state disk).synced ≡ (state disk).reads

-- what a stop may leave while so many bytes are written at a place
abbrev pub IsTornFrom : (List ℕ → Type 0) → ℕ → ℕ → List ℕ → Type 0
IsTornFrom images at count c = (d : List ℕ) × images d × IsTorn at count d c

-- a piece was written and synced
pub record IsSettled {D : Type 0} (state : D → State) (images : D → List ℕ → Type 0) (old new : D) (at : ℕ) (piece : List ℕ) : Type 0 where
  pub reads : (state new).reads ≡ written at piece (state old).reads
  pub synced : (state new).synced ≡ (state new).reads
  pub only : Only (state new).reads (images new)
  pub good : (state new).good ≡ counted (state old).good 2

-- a piece was not synced
pub record IsUnsettled {D : Type 0} (state : D → State) (old new : D) : Type 0 where
  pub synced : (state new).synced ≡ (state old).synced
  pub good : HasCountedBelow 2 (state old).good (state new).good
