use Rattle.std.proofs.Common.{◌≡◌, ℕ, ◌<◌, get_or}
use Rattle.pr_vectors.proofs.clocks.is_near_but.Given as goal

-- all nodes so far have the same clocks, but for the one
abbrev pub invariant-loop-n : goal.invariant-loop-n
invariant-loop-n l = (k : ℕ) → k < l.n → (k ≡ l.node → ⊥) → get_or l.near k 0 ≡ get_or l.others k 0
