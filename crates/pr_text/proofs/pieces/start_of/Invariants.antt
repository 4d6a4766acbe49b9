use Rattle.std.proofs.Common.{◌≡◌, take, length}
use Rattle.pr_text.proofs.Parts.{parts}
use Rattle.pr_text.proofs.pieces.start_of.Given as goal

abbrev pub invariant-loop-below : goal.invariant-loop-below
invariant-loop-below l = l.start ≡ length (parts (take l.below l.fn.pieces) 0 l.fn.vector)
