-- Vectors that name declared nodes alone.
use Rattle.std.proofs.Common.{◌≡◌, ℕ, ◌<◌, ◌≤◌, cond, List, length, inl, inr, ◌∙◌, arith}
use Rattle.std.specs.Prelude.{nat_eq, max}
use Rattle.std.proofs.lemmas.Bool.{cases_lt}
use Rattle.std.proofs.lemmas.List.{get_or_past}
use Rattle.std.proofs.lemmas.Bool.Decides.{nat_tests}
use Rattle.pr_stamps.specs.Point.{Point}
use Rattle.pr_vectors.specs.Vector.{IsVector, clock_of, raised, zero_vector}
use Rattle.pr_vectors.proofs.Vectors.{is_in_range, length-vector_of}
use Rattle.pr_story.specs.Counts.{HasVector}
use Rattle.pr_story.proofs.Basics.{clock_zero}
use Rattle.pr_story.proofs.Clients.{raised_clock}

pub zero_is : IsVector zero_vector
zero_is = is_in_range (λ k. 0) zero_vector (length-vector_of (λ k. 0)) (λ k l. clock_zero k) (λ k l. omega arith)

pub zero_declared : (nodes : ℕ) → HasVector nodes zero_vector
zero_declared nodes n le = clock_zero n

other_node : (n m a b : ℕ) → m < n → b ≡ 0 → cond (nat_eq n m) a b ≡ 0
other_node n m a b l e = grind (arith, nat_tests)

pub raised_declared : (nodes : ℕ) (v : List ℕ) (p : Point) → HasVector nodes v → p.node < nodes → HasVector nodes (raised v p)
raised_declared nodes v p h l n le = elim (cases_lt n 32) [
  | inl lt ↦ raised_clock v p n lt ∙ other_node n p.node (max (clock_of v n) p.clock) (clock_of v n) (omega arith) (h n le)
  | inr past ↦ beyond (raised v p) n (omega (arith, length-vector_of (λ n. cond (nat_eq n p.node) (max (clock_of v n) p.clock) (clock_of v n))))
]
  where
    beyond : (xs : List ℕ) (i : ℕ) → length xs ≤ i → clock_of xs i ≡ 0
    beyond xs i k = get_or_past xs i 0 k
