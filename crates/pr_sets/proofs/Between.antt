-- What tests of places tell.
use Rattle.std.proofs.Common.{◌≡◌, ℕ, ◌<◌, ◌≤◌, Bool, true, false, arith}
use Rattle.std.specs.Prelude.{◌||◌, ◌&&◌, not, nat_le, min, max}
use Rattle.std.proofs.lemmas.Bool.Decides.{nat_tests}
use Rattle.pr_names.proofs.Places.{between}

pub joins : (a b c d v : ℕ) → a < b → c < d → c ≤ b → a ≤ d → between (min a c) (max b d) v ≡ (between a b v || between c d v)
joins a b c d v ab cd cb ad = grind (arith, nat_tests)

pub grows : (a b c d v : ℕ) → a < b → c < d → c ≤ b → a ≤ c → between a (max b d) v ≡ (between a b v || between c d v)
grows a b c d v ab cd cb ac = grind (arith, nat_tests)

pub shares : (a b c d v : ℕ) → between (max a c) (min b d) v ≡ (between a b v && between c d v)
shares a b c d v = grind (arith, nat_tests)

pub shares_none : (a b c d v : ℕ) → min b d ≤ max a c → (between a b v && between c d v) ≡ false
shares_none a b c d v h = grind (arith, nat_tests)

pub gap_step : (n c d v : ℕ) (h : Bool) → n ≤ c → c < d → (v < d → h ≡ false) → (between n c v || (nat_le d v && not h)) ≡ (nat_le n v && not (between c d v || h))
gap_step n c d v h nc cd above = grind (arith, nat_tests)

pub up_to : (n t v : ℕ) → v < t → between n t v ≡ (nat_le n v && true)
up_to n t v lt = grind (arith, nat_tests)

pub never : (a b v : ℕ) → b ≤ a → between a b v ≡ false
never a b v le = grind (arith, nat_tests)

pub before_it : (a b v : ℕ) → v < a → between a b v ≡ false
before_it a b v lt = grind (arith, nat_tests)
