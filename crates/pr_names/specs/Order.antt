-- The order of names: by their bytes.
use Rattle.std.specs.Prelude.{ℕ, Bool, true, false, List, [], ◌∷◌, ◌&&◌, ◌||◌, nat_lt, nat_eq, AllPairs, IsTrue}

-- the first byte that differs decides, and what is longer comes after its beginning
unfoldable pub name_lt : List ℕ → List ℕ → Bool
name_lt x [] = false
name_lt [] (b ∷ y) = true
name_lt (a ∷ x) (b ∷ y) = nat_lt a b || (nat_eq a b && name_lt x y)

-- each of these names comes before all later ones
abbrev pub NamesRise : List (List ℕ) → Type 0
NamesRise names = AllPairs (λ (a : List ℕ) (b : List ℕ). IsTrue (name_lt a b)) names
