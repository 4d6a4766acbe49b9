use Rattle.std.proofs.Common.{◌≡◌, ◌≤◌, ◌<◌, ◌+◌, ◌++◌, length, take}
use Rattle.pr_wire.specs.Feeding.{new_feed, pushed}
use Rattle.pr_wire.specs.Pieces.{rest_of}
use Rattle.pr_wire.proofs.through.fed.Given as goal

abbrev pub invariant-loop-len : goal.invariant-loop-len
invariant-loop-len l = record {
  all : pushed l.feed (take l.len l.piece ++ rest_of l.pieces) ≡ pushed (new_feed 18446744073709551615) (l.fn.piece ++ rest_of l.fn.pieces);
  within : l.len ≤ length l.piece;
  some : 0 < length l.piece;
  end : l.len ≡ 0 → length (rest_of l.pieces) ≡ 0;
}

abbrev pub decreases-loop-len : goal.decreases-loop-len
decreases-loop-len l = l.len + length (rest_of l.pieces)
