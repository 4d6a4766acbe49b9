use Rattle.std.proofs.Common.{◌≡◌, ◌-◌, ◌≤◌, ◌++◌, length, take}
use Rattle.pr_wire.specs.Pieces.{rest_of}
use Rattle.pr_wire.proofs.pieces.Pieces.next.Given as goal

abbrev pub invariant-loop-filled : goal.invariant-loop-filled
invariant-loop-filled l = record {
  within : l.filled ≤ length l.buf;
  all : take l.filled l.buf ++ rest_of l.self ≡ rest_of l.fn.self;
}

abbrev pub decreases-loop-filled : goal.decreases-loop-filled
decreases-loop-filled l = length l.initial.buf - l.filled
