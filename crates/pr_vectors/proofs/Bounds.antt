-- The arithmetic behind what vectors cover.
use Rattle.std.proofs.Common.{◌≡◌, ℕ, ◌<◌, ◌≤◌, ◌-◌, arith}
use Rattle.std.specs.Prelude.{◌⊎◌, max, min, cond, nat_le, nat_lt}
use Rattle.std.proofs.lemmas.Bool.Decides.{nat_tests}

pub max_split : (c a b : ℕ) → 1 ≤ c → c ≤ max a b → ((1 ≤ c) × (c ≤ a)) ⊎ ((1 ≤ c) × (c ≤ b))
max_split c a b one most = grind (arith, nat_tests)

pub max_left : (c a b : ℕ) → ((1 ≤ c) × (c ≤ a)) ⊎ ((1 ≤ c) × (c ≤ b)) → (1 ≤ c) × (c ≤ max a b)
max_left c a b either = grind (arith, nat_tests)

pub min_both : (c a b : ℕ) → 1 ≤ c → c ≤ min a b → ((1 ≤ c) × (c ≤ a)) × ((1 ≤ c) × (c ≤ b))
min_both c a b one most = grind (arith, nat_tests)

pub both_min : (c a b : ℕ) → (1 ≤ c) × (c ≤ a) → (1 ≤ c) × (c ≤ b) → (1 ≤ c) × (c ≤ min a b)
both_min c a b left right = grind (arith, nat_tests)

-- up to clock s of node m
pub cut_up_to : (c n s m a : ℕ) → 1 ≤ c → c ≤ min a (cond (nat_le n m) s (s - 1)) → ((1 ≤ c) × (c ≤ a)) × ((s < c) ⊎ ((s ≡ c) × (m < n)) → ⊥)
cut_up_to c n s m a one most = grind (arith, nat_tests)

pub up_to_cut : (c n s m a : ℕ) → 1 ≤ c → c ≤ a → ((s < c) ⊎ ((s ≡ c) × (m < n)) → ⊥) → (1 ≤ c) × (c ≤ min a (cond (nat_le n m) s (s - 1)))
up_to_cut c n s m a one most after = grind (arith, nat_tests)

-- before clock s of node m
pub cut_before : (c n s m a : ℕ) → 1 ≤ c → c ≤ min a (cond (nat_lt n m) s (s - 1)) → ((1 ≤ c) × (c ≤ a)) × ((c < s) ⊎ ((c ≡ s) × (n < m)))
cut_before c n s m a one most = grind (arith, nat_tests)

pub before_cut : (c n s m a : ℕ) → 1 ≤ c → c ≤ a → (c < s) ⊎ ((c ≡ s) × (n < m)) → (1 ≤ c) × (c ≤ min a (cond (nat_lt n m) s (s - 1)))
before_cut c n s m a one most before = grind (arith, nat_tests)
