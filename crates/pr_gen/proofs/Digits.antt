-- Names of a letter, a slash and a number.
use Rattle.std.proofs.Common.{◌≡◌, ℕ, ◌+◌, ◌/◌, ◌%◌, ◌<◌, ◌≤◌, List, [], ◌∷◌, ◌++◌, sym, ap, ◌∙◌, arith}
use Rattle.std.specs.Prelude.{decimal}
use Rattle.std.proofs.lemmas.Fmt.{decimal_digit, decimal_step}
use Rattle.pr_gen.specs.Topology.{front}

pub one_digit : (letter n : ℕ) → n < 10 → (97 + letter) ∷ 47 ∷ (48 + n % 10) ∷ [] ≡ front letter ++ decimal n
one_digit letter n h = ap (λ (ds : List ℕ). front letter ++ ds) (ap (λ (m : ℕ). (48 + m) ∷ []) (omega arith) ∙ sym (decimal_digit n h))

two_digits : (n : ℕ) → 10 ≤ n → n < 100 → (48 + n / 10) ∷ (48 + n % 10) ∷ [] ≡ decimal n
two_digits n lo hi = sym (decimal_step n lo (omega arith) ∙ ap (λ (ds : List ℕ). ds ++ (48 + n % 10) ∷ []) (decimal_digit (n / 10) (omega arith)))

pub two_digit : (letter n : ℕ) → 10 ≤ n → n < 100 → (97 + letter) ∷ 47 ∷ (48 + n / 10) ∷ (48 + n % 10) ∷ [] ≡ front letter ++ decimal n
two_digit letter n lo hi = ap (λ (ds : List ℕ). front letter ++ ds) (two_digits n lo hi)
