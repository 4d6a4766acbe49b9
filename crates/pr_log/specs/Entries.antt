-- The writes of a node as entries: each with its clock.
use Rattle.std.specs.Prelude.{◌≡◌, ◌≤◌, ◌<◌, ◌⊎◌, ℕ, List, Option, None, Some, IsSome, AllPairs, filter, nat_eq, not}
use Rattle.std.specs.Borrow.{Bor}
use Rattle.pr_inval.specs.declared.write_rec.WriteRec.{WriteRec}
use Rattle.pr_log.specs.Known.{at_clock}

-- each clock is below all later ones
abbrev pub Rise : List ℕ → Type 0
Rise clocks = AllPairs (λ (a : ℕ) (b : ℕ). a < b) clocks

-- an entry that is lent
abbrev pub entry_of : Option (ℕ × Bor WriteRec) → Option (ℕ × WriteRec)
entry_of None = None
entry_of (Some e) = Some (e.0, e.1.now)

-- the first of the entries above a clock
abbrev pub IsFirstEntry : List (ℕ × WriteRec) → ℕ → Option (ℕ × WriteRec) → Type 0
IsFirstEntry entries c None = (d : ℕ) → c < d → at_clock entries d ≡ None
IsFirstEntry entries c (Some e) = (c < e.0) × (at_clock entries e.0 ≡ Some e.1) × ((d : ℕ) → c < d → IsSome (at_clock entries d) → e.0 ≤ d)

-- of two entries the one with the lesser clock, or the first
abbrev pub IsLesserEntry : Option (ℕ × WriteRec) → Option (ℕ × WriteRec) → Option (ℕ × WriteRec) → Type 0
IsLesserEntry None b r = r ≡ b
IsLesserEntry (Some a) None r = r ≡ Some a
IsLesserEntry (Some a) (Some b) r = ((r ≡ Some a) × (a.0 ≤ b.0)) ⊎ ((r ≡ Some b) × (b.0 < a.0))

-- the entries but that of a clock
abbrev pub without : ℕ → List (ℕ × WriteRec) → List (ℕ × WriteRec)
without c entries = filter (λ (e : ℕ × WriteRec). not (nat_eq e.0 c)) entries
