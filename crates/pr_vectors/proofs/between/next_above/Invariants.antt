use Rattle.std.proofs.Common.{ℕ, ◌≤◌, ◌<◌, get_or}
use Rattle.pr_vectors.proofs.between.next_above.Given as goal

-- none of the places so far has a clock above the other's
abbrev pub invariant-loop-n : goal.invariant-loop-n
invariant-loop-n l = (k : ℕ) → l.start ≤ k → k < l.n → get_or l.clocks k 0 ≤ get_or l.others k 0
