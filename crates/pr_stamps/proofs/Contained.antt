-- What a list contains.
use Rattle.std.proofs.Common.{◌≡◌, ◌<◌, ◌⊎◌, ℕ, inl, inr, zero, suc, List, [], ◌∷◌, get_or, refl, arith, length}
use Rattle.std.specs.Prelude.{Contains}

pub contains_none : {X : Type 0} (x : X) → Contains [] x → ⊥
contains_none x c = let bad : c.0 < 0 = c.1 in omega arith

pub first_or_later : {X : Type 0} (y : X) (ys : List X) (x : X) → Contains (y ∷ ys) x → (y ≡ x) ⊎ Contains ys x
first_or_later y ys x c = by c.0 c.1 c.2
  where
    by : (k : ℕ) → k < length (y ∷ ys) → get_or (y ∷ ys) k x ≡ x → (y ≡ x) ⊎ Contains ys x
    by zero lt e = inl e
    by (suc k) lt e = inr (k, (omega arith), e)

pub is_later : {X : Type 0} (y : X) (ys : List X) (x : X) → Contains ys x → Contains (y ∷ ys) x
is_later y ys x c = let lt : c.0 < length ys = c.1 in (suc c.0, omega arith, c.2)

pub is_first : {X : Type 0} (y : X) (ys : List X) → Contains (y ∷ ys) y
is_first y ys = (zero, omega arith, refl)
