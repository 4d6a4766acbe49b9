use Rattle.std.proofs.Common.{◌≡◌, ◌++◌, length, take}
use Rattle.pr_wire.specs.Pieces.{rest_of}
use Rattle.pr_wire.proofs.pieces.Pieces.append_to.Given as goal

abbrev pub invariant-loop-out : goal.invariant-loop-out
invariant-loop-out l = record {
  all : l.out ++ rest_of l.self ≡ l.fn.out ++ rest_of l.fn.self;
  kept : take (length l.fn.out) l.out ≡ l.fn.out;
}

abbrev pub decreases-loop-out : goal.decreases-loop-out
decreases-loop-out l = length (rest_of l.self)
