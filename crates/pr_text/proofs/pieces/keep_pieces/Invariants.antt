use Rattle.std.proofs.Common.{◌≡◌}
use Rattle.pr_text.proofs.pieces.keep_pieces.Given as goal

abbrev pub invariant-loop-node : goal.invariant-loop-node
invariant-loop-node l = l.pieces ≡ l.fn.pieces
