use Rattle.std.proofs.Common.{ℕ, ◌≤◌, List, ◌++◌, length}
use Rattle.pr_script.specs.Reading.{StandsFor}
use Rattle.pr_script.proofs.Segments.{IsUpTo}
use Rattle.pr_script.proofs.reader.bytes.Given as goal

abbrev pub invariant-loop-at : goal.invariant-loop-at
invariant-loop-at l = record {
  read : (bytes : List ℕ) → StandsFor l.fn.progress l.fn.under bytes → IsUpTo l.progress l.under l.rest (bytes ++ l.piece);
  rest : length l.rest ≤ length l.piece;
}

abbrev pub decreases-loop-at : goal.decreases-loop-at
decreases-loop-at l = length l.rest
