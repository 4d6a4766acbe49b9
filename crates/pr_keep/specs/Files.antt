-- What a kept file stands for (docs/KEPT.md).
use Rattle.std.specs.Prelude.{◌≡◌, ◌≢◌, ◌⊎◌, ℕ, List, [], ◌∷◌, ◌++◌, length, take}
use Rattle.std.specs.List.{AllByRecursion, flat_map}
use Rattle.pr_story.specs.declared.entry.Entry.{Entry}
use Rattle.pr_keep.specs.Entries.{IsKeepable}
use Rattle.pr_keep.specs.Spelling.{counted_text, entry_text}

-- the eight bytes PRACTIK1
abbrev pub head : List ℕ
head = 80 ∷ 82 ∷ 65 ∷ 67 ∷ 84 ∷ 73 ∷ 75 ∷ 49 ∷ []

-- an open gate, and the entry's spelling behind its length
unfoldable pub record_text : ℕ × Entry → List ℕ
record_text e = 1 ∷ counted_text (entry_text e)

-- the head and the records of these entries
unfoldable pub front : List (ℕ × Entry) → List ℕ
front es = head ++ flat_map record_text es

-- behind the records of the entries stands a closed gate, and anything behind it
pub record StandsFor (file : List ℕ) (es : List (ℕ × Entry)) : Type 0 where
  pub each : AllByRecursion IsKeepable es
  pub gate : ℕ
  pub behind : List ℕ
  pub closed : gate ≢ 1
  pub is : file ≡ front es ++ gate ∷ behind

-- no head, no record and no closed gate stands where one has to, of which the first byte is this one
pub record IsBroken (file : List ℕ) (at : ℕ) : Type 0 where
  pub entries : List (ℕ × Entry)
  pub each : AllByRecursion IsKeepable entries
  pub rest : List ℕ
  pub is : file ≡ front entries ++ rest
  pub place : at ≡ length (front entries)
  pub no_gate : (gate : ℕ) (behind : List ℕ) → gate ≢ 1 → rest ≢ gate ∷ behind
  pub no_record : (e : ℕ × Entry) (behind : List ℕ) → IsKeepable e → rest ≢ record_text e ++ behind

abbrev pub IsDamaged : List ℕ → ℕ → Type 0
IsDamaged file at = ((take 8 file ≢ head) × (at ≡ 0)) ⊎ IsBroken file at

-- the list, with one entry more or without it
abbrev pub StandsForEither : List (ℕ × Entry) → ℕ × Entry → List ℕ → Type 0
StandsForEither es e file = StandsFor file es ⊎ StandsFor file (es ++ e ∷ [])
