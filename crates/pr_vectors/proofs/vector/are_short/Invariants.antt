use Rattle.std.proofs.Common.{ℕ, ◌<◌, ◌≤◌, get_or}
use Rattle.std.specs.Prelude.{IsTrue}
use Rattle.pr_vectors.proofs.vector.are_short.Given as goal

abbrev pub invariant-loop-n : goal.invariant-loop-n
invariant-loop-n l = IsTrue l.short → (k : ℕ) → k < l.n → get_or l.clocks k 0 ≤ 65535
