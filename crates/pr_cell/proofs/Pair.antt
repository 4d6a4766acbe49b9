-- Two numbers, both held.
use Rattle.std.proofs.Common.{◌≡◌, ℕ, zero, suc, ◌<◌, List, [], ◌∷◌, Contains, refl, sym, subst, arith}

below_two : (k : ℕ) → k < 2 → Contains (0 ∷ 1 ∷ []) k
below_two zero l = (0, omega arith, refl)
below_two (suc zero) l = (1, omega arith, refl)
below_two (suc (suc k)) l = absurd (omega arith)

pub both_held : (held : List ℕ) (issued : ℕ) → held ≡ 0 ∷ 1 ∷ [] → issued ≡ 2 → Contains held 0 × ((k : ℕ) → k < issued → Contains held k)
both_held held issued h n = (subst (λ xs. Contains xs 0) (sym h) (0, omega arith, refl), (λ k l. subst (λ xs. Contains xs k) (sym h) (below_two k (subst (λ m. k < m) n l))))
