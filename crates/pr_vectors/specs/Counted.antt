-- How far a vector's clocks go.
use Rattle.std.specs.Prelude.{ℕ, zero, suc, List, [], ◌∷◌, ◌≡◌, ◌≤◌, ◌<◌, nat_eq, cond}
use Rattle.pr_vectors.specs.Vector.{IsVector, clock_of}

-- how many clocks there are up to the last that is not 0, with one more in front of so many
abbrev pub counted_with : ℕ → ℕ → ℕ
counted_with c zero = cond (nat_eq c 0) 0 1
counted_with c (suc n) = suc (suc n)

-- how many clocks there are up to the last that is not 0
abbrev pub counted : List ℕ → ℕ
counted [] = 0
counted (c ∷ cs) = counted_with c (counted cs)

-- the clocks are a vector, of which so many count
pub record HasCount (clocks : List ℕ) (count : ℕ) : Type 0 where
  pub vector : IsVector clocks
  pub few : count ≤ 32
  pub behind : (n : ℕ) → count ≤ n → n < 32 → clock_of clocks n ≡ 0
  pub exact : count ≡ counted clocks
