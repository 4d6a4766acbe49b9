-- The clocks of the latest writes of one node, one for each name.
use Rattle.std.specs.Prelude.{◌≡◌, ◌≤◌, ◌<◌, ℕ, List, Option, None, Some, IfSome, cond, max}
use Rattle.std.specs.Map.{lookup}
use Rattle.std.specs.Ordering.{is_eq, nat_cmp}
use Rattle.std.specs.Cmp.Lexicographic.{slice_cmp}
use Rattle.pr_inval.specs.declared.write_rec.WriteRec.{WriteRec}
use Rattle.pr_log.specs.Known.{Has, at_clock}

-- the clock that is kept for a name
abbrev pub clock_by : List (List ℕ × ℕ) → List ℕ → Option ℕ
clock_by clocks o = lookup (λ k. is_eq (slice_cmp nat_cmp o k)) clocks

-- the clock that is kept for a name is above this one
abbrev pub IsAbove : List (List ℕ × ℕ) → ℕ → List ℕ → Type 0
IsAbove clocks c o = (k : ℕ) × (clock_by clocks o ≡ Some k) × (c < k)

-- just for the names of the row's writes a clock is kept, that of the latest
pub record AreLatest (row : List (ℕ × WriteRec)) (clocks : List (List ℕ × ℕ)) : Type 0 where
  pub written : (o : List ℕ) (k : ℕ) → clock_by clocks o ≡ Some k → (w : WriteRec) × (at_clock row k ≡ Some w) × (w.name ≡ o)
  pub last : (c : ℕ) (w : WriteRec) → at_clock row c ≡ Some w → (k : ℕ) × (clock_by clocks w.name ≡ Some k) × (c ≤ k)

-- the later of a clock that may be kept and another
abbrev pub later_of : Option ℕ → ℕ → ℕ
later_of None c = c
later_of (Some k) c = max k c

-- the name's clock is this one now, if no later one is kept
abbrev pub IsRaised : List (List ℕ × ℕ) → List (List ℕ × ℕ) → List ℕ → ℕ → Type 0
IsRaised a b name c = (o : List ℕ) → clock_by b o ≡ cond (is_eq (slice_cmp nat_cmp name o)) (Some (later_of (clock_by a name) c)) (clock_by a o)

-- the same, where the clocks are kept
abbrev pub IsRaisedIn : Option (List (List ℕ × ℕ)) → Option (List (List ℕ × ℕ)) → List ℕ → ℕ → Type 0
IsRaisedIn None b name c = b ≡ None
IsRaisedIn (Some a) b name c = IfSome b (λ now. IsRaised a now name c)

-- the row has a write to the name above the clock
abbrev pub IsWrittenAbove : List (ℕ × WriteRec) → ℕ → List ℕ → Type 0
IsWrittenAbove row c o = (k : ℕ) × (w : WriteRec) × (at_clock row k ≡ Some w) × (w.name ≡ o) × (c < k)

-- the node wrote to the name above the clock
abbrev pub WroteAbove : List (List (ℕ × WriteRec)) → ℕ → ℕ → List ℕ → Type 0
WroteAbove rows n c o = (x : WriteRec) × Has rows x × (x.stamp.node ≡ n) × (x.name ≡ o) × (c < x.stamp.clock)
