-- Lists that change place by place.
use Rattle.std.proofs.Common.{◌≡◌, ℕ, ◌≤◌, ◌<◌, List, [], ◌∷◌, zero, suc, length, get_or, refl, ◌∙◌, arith}
use Rattle.std.specs.Prelude.{◌⊎◌}
use Rattle.std.proofs.lemmas.List.{get_or_default}
use Rattle.std.proofs.lemmas.Bool.Decides.{nat_tests}

pub this_or_other : (a b : ℕ) → (a ≡ b) ⊎ ¬ (a ≡ b)
this_or_other a b = grind (arith, nat_tests)

-- a place past the end
pub past_end : {A : Type 0} (items : List A) (n : ℕ) (d : A) → length items ≤ n → get_or items n d ≡ d
past_end [] n d le = refl
past_end (x ∷ xs) zero d le = absurd (omega (arith, le))
past_end (x ∷ xs) (suc n) d le = past_end xs n d (omega (arith, le))

-- the place that an index finds
pub at_place : {A : Type 0} (items : List A) (n : ℕ) (x d : A) → x ≡ get_or items n x → n < length items → x ≡ get_or items n d
at_place items n x d is lt = is ∙ get_or_default items n x d lt

pub less_by : (a b : ℕ) → a ≤ b → ¬ (a ≡ b) → a < b
less_by a b le other = grind (arith, nat_tests)
