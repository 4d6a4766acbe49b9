-- The least names above others.
use Rattle.std.specs.Prelude.{◌≡◌, ℕ, ◌==◌, ◌↔◌, IsTrue, not, nat_lt, cond, List, [], ◌∷◌, ◌++◌, length, take, ◌&&◌}
use Rattle.pr_names.specs.Byte.{next_byte}
use Rattle.pr_names.specs.Name.{IsName}
use Rattle.pr_names.specs.Order.{name_lt}
use Rattle.pr_names.specs.Bound.{is_under}
use Rattle.pr_names.specs.declared.bound.Bound.{Bound}
use Rattle.pr_names.specs.declared.bound.Bound.TheVariants.{At, End}

-- ---- what they are

-- the name begins with these bytes
abbrev pub Begins : List ℕ → List ℕ → Type 0
Begins front x = take (length front) x ≡ front

-- the names from the bound on are those above the name
abbrev pub IsLeastAbove : List ℕ → Bound → Type 0
IsLeastAbove n b = (x : List ℕ) → IsName x → IsTrue (name_lt n x) ↔ IsTrue (not (is_under x b))

-- the names from the bound on are those above every name that begins with this one
abbrev pub IsLeastAboveAll : List ℕ → Bound → Type 0
IsLeastAboveAll n b = (x : List ℕ) → IsName x → ((y : List ℕ) → IsName y → Begins n y → IsTrue (name_lt y x)) ↔ IsTrue (not (is_under x b))

-- the names from the name up to the bound are those that begin with the name
abbrev pub IsEndOfAll : List ℕ → Bound → Type 0
IsEndOfAll n b = (x : List ℕ) → IsName x → Begins n x ↔ IsTrue (not (name_lt x n) && is_under x b)

-- ---- how they are spelled

-- no bytes stand for the end
abbrev pub bound_of : List ℕ → Bound
bound_of [] = End
bound_of (b ∷ bs) = At (b ∷ bs)

-- the last byte that is no z is raised, and what stands behind it is dropped
abbrev pub raised_onto : ℕ → List ℕ → List ℕ
raised_onto b [] = cond (b == 122) [] (next_byte b ∷ [])
raised_onto b (c ∷ cs) = b ∷ c ∷ cs

abbrev pub raised : List ℕ → List ℕ
raised [] = []
raised (b ∷ bs) = raised_onto b (raised bs)

-- the least name above each name that begins so
abbrev pub after_all_of : List ℕ → Bound
after_all_of bs = bound_of (raised bs)

-- the least name above this one
abbrev pub after_of : List ℕ → Bound
after_of bs = cond (nat_lt (length bs) 64) (At (bs ++ 45 ∷ [])) (after_all_of bs)
