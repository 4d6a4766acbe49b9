use Rattle.std.proofs.Common.{◌≡◌, ◌≤◌, ◌+◌, ◌++◌, length, min, take}
use Rattle.pr_wire.specs.Pieces.{rest_of}
use Rattle.pr_wire.specs.Spelling.{spelling}
use Rattle.pr_wire.specs.declared.format.Format.TheVariants.{Two}
use Rattle.pr_flow.specs.Moving.{Moves}
use Rattle.pr_flow.proofs.carrying.carry_long.Given as goal

abbrev pub invariant-loop-len : goal.invariant-loop-len
invariant-loop-len g l =
    let w = g.W.Wire in
    record {
      all : l.feed.rest ++ (take l.len l.piece ++ rest_of l.pieces) ≡ spelling Two l.msg;
      limit : l.feed.limit ≡ 18446744073709551615;
      moved : Moves (w.state l.initial.wire) (w.state l.wire) l.feed.rest l.feed.rest;
      done : l.done ≡ min (length l.feed.rest) 18446744073709551615;
      within : l.len ≤ 4096;
      room : length l.piece ≡ 4096;
      buffer : length l.bytes ≡ 4096;
      end : l.len ≡ 0 → length (rest_of l.pieces) ≡ 0;
    }

abbrev pub decreases-loop-len : goal.decreases-loop-len
decreases-loop-len g l = l.len + length (rest_of l.pieces)
