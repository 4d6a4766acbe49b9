use Rattle.std.proofs.Common.{◌≡◌, ◌+◌, ◌<◌, ◌^◌, length}
use Rattle.std.specs.Prelude.{◌%◌}
use Rattle.pr_wire.specs.Pieces.{left_text}
use Rattle.pr_wire.proofs.pieces.len_of.Given as goal

abbrev pub invariant-loop-rest : goal.invariant-loop-rest
invariant-loop-rest l = record {
  all : (l.len + length (left_text l.rest)) % 2 ^ 64 ≡ length (left_text l.fn.left) % 2 ^ 64;
  fits : l.len < 2 ^ 64;
  end : length l.chunk.items ≡ 0 → length (left_text l.rest) ≡ 0;
}

abbrev pub decreases-loop-rest : goal.decreases-loop-rest
decreases-loop-rest l = length l.chunk.items + length (left_text l.rest)
