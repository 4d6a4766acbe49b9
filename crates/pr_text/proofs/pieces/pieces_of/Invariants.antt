use Rattle.std.proofs.Common.{◌≡◌, take}
use Rattle.pr_text.proofs.pieces.pieces_of.Given as goal

abbrev pub invariant-loop-label : goal.invariant-loop-label
invariant-loop-label l = l.pieces.items ≡ take l.label-index l.fn.labels
