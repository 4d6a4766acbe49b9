use Rattle.std.proofs.Common.{◌≡◌, ◌++◌, ◌≤◌, drop}
use Rattle.pr_text.proofs.Parts.{parts}
use Rattle.pr_text.proofs.pieces.push_parts.Given as goal

-- what is written, then what is still to be written, is all; and no more nodes than pieces were passed
abbrev pub invariant-loop-piece : goal.invariant-loop-piece
invariant-loop-piece l =
    (l.text ++ parts (drop l.piece-index l.fn.pieces) l.node l.fn.vector ≡ l.fn.text ++ parts l.fn.pieces 0 l.fn.vector)
    × (l.node ≤ l.piece-index)
