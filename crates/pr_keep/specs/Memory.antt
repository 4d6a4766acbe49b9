-- A disk in memory, by what was done to it.
use Rattle.std.specs.Prelude.{◌≡◌, ◌⊎◌, ◌≤◌, ◌==◌, ℕ, cond, List, [], ◌∷◌, length, take, drop, Some, refl}
use Rattle.std.proofs.Math.Nat.{not-suc-le_self}
use mathlib.Core.Logic.{inl, inr}
use Rattle.pr_keep.specs.declared.change.Change.{Change}
use Rattle.pr_keep.specs.declared.change.Change.TheVariants.{Wrote, Synced}
use Rattle.pr_keep.specs.Disk.{IsTorn, State, written}

-- what was done, the newest first; after how many good calls it fails, and its counts
pub record Memory : Type 0 where
  pub changes : List Change
  pub stop : ℕ
  pub good : ℕ
  pub faults : ℕ

-- the bytes that it reads as
abbrev pub reads_of : List Change → List ℕ
reads_of [] = []
reads_of (Wrote at piece over ∷ changes) = written at piece (reads_of changes)
reads_of (Synced ∷ changes) = reads_of changes

-- what was done up to the last sync
abbrev pub synced_changes : List Change → List Change
synced_changes [] = []
synced_changes (Wrote at piece over ∷ changes) = synced_changes changes
synced_changes (Synced ∷ changes) = Synced ∷ changes

-- the greatest number is no stop, which no count comes to
abbrev pub lasts_of : ℕ → ℕ
lasts_of stop = cond (stop == 18446744073709551615) 18446744073709551616 stop

abbrev pub state_of : Memory → State
state_of m = record {
  reads = reads_of m.changes;
  synced = reads_of (synced_changes m.changes);
  good = m.good;
  faults = m.faults;
  lasts = Some (lasts_of m.stop);
}

-- what it reads as, and what a write that is not synced may have left
abbrev pub IsImage : List Change → List ℕ → Type 0
IsImage [] c = c ≡ []
IsImage (Wrote at piece over ∷ changes) c = (c ≡ written at piece (reads_of changes)) ⊎ ((d : List ℕ) × IsImage changes d × IsTorn at (length piece) d c)
IsImage (Synced ∷ changes) c = c ≡ reads_of changes

-- an image after so many changes, or after one of those that followed
abbrev pub WasImage : List Change → ℕ → List ℕ → Type 0
WasImage [] t c = IsImage [] c
WasImage (change ∷ changes) t c = IsImage (change ∷ changes) c ⊎ ((t ≤ length changes) × WasImage changes t c)

-- each write says what was there before
abbrev pub CanUndo : List Change → Type 0
CanUndo [] = Unit {0}
CanUndo (Wrote at piece over ∷ changes) = (at ≤ length (reads_of changes)) × (over ≡ take (length piece) (drop at (reads_of changes))) × CanUndo changes
CanUndo (Synced ∷ changes) = CanUndo changes

-- the bytes are those that the changes made
pub record IsMade (bytes : List ℕ) (changes : List Change) : Type 0 where
  pub reads : bytes ≡ reads_of changes
  pub undo : CanUndo changes

-- no more calls answered Ok than it answers
abbrev pub IsWithin : Memory → Type 0
IsWithin m = m.good ≤ lasts_of m.stop

abbrev pub new_memory : ℕ → Memory
new_memory stop = record { changes = []; stop = stop; good = 0; faults = 0 }

-- the disk as of its last sync, without a stop
abbrev pub image_of : Memory → Memory
image_of m = record { changes = synced_changes m.changes; stop = 18446744073709551615; good = 0; faults = 0 }

-- ---- the laws of a disk

pub reads_as_image : (changes : List Change) → IsImage changes (reads_of changes)
reads_as_image [] = refl
reads_as_image (Wrote at piece over ∷ changes) = inl refl
reads_as_image (Synced ∷ changes) = refl

pub image_was : (changes : List Change) (t : ℕ) (c : List ℕ) → IsImage changes c → WasImage changes t c
image_was [] t c now = now
image_was (change ∷ changes) t c now = inl now

pub only_image : (changes : List Change) (c : List ℕ) → WasImage changes (length changes) c → IsImage changes c
only_image [] c was = was
only_image (change ∷ changes) c (inl now) = now
only_image (change ∷ changes) c (inr was) = absurd (not-suc-le_self (length changes) was.0)
