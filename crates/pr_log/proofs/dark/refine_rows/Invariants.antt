use Rattle.std.proofs.Common.{◌≡◌, ℕ, ◌≤◌, ◌<◌, ◌-◌, [], length, get_or}
use Rattle.pr_vectors.specs.Vector.{clock_of}
use Rattle.pr_log.specs.Dark.{IsRowRefined}
use Rattle.pr_log.proofs.dark.refine_rows.Given as goal

abbrev pub invariant-loop-n : goal.invariant-loop-n
invariant-loop-n l = record {
  len : length l.rows.items ≡ 32;
  done : (k : ℕ) → k < l.start → ¬ (k ≡ l.own) → IsRowRefined (clock_of l.from k) (clock_of l.to k) l.target (get_or l.initial.rows.items k []) (get_or l.rows.items k []);
  rest : (k : ℕ) → l.start ≤ k → get_or l.rows.items k [] ≡ get_or l.initial.rows.items k [];
}

abbrev pub decreases-loop-n : goal.decreases-loop-n
decreases-loop-n l = 32 - l.start
