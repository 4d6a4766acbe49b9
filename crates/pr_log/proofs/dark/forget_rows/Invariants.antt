use Rattle.std.proofs.Common.{◌≡◌, ℕ, List, ◌≤◌, ◌<◌, [], length, get_or}
use Rattle.pr_vectors.specs.Vector.{clock_of}
use Rattle.pr_log.specs.Sets.{is_lit_at}
use Rattle.pr_log.proofs.dark.forget_rows.Given as goal

abbrev pub invariant-loop-n : goal.invariant-loop-n
invariant-loop-n l = record {
  len : length l.rows.items ≡ 32;
  done : (k : ℕ) → k < l.n → (o : List ℕ) (c : ℕ) → clock_of l.cut k < c → is_lit_at (get_or l.rows.items k []) o c ≡ is_lit_at (get_or l.initial.rows.items k []) o c;
  rest : (k : ℕ) → l.n ≤ k → get_or l.rows.items k [] ≡ get_or l.initial.rows.items k [];
}
