use Rattle.std.proofs.Common.{length, ◌-◌, ◌≡◌, ◌≤◌, [], take}
use Rattle.pr_flow.specs.Moving.{Moves}
use Rattle.pr_flow.proofs.passing.take_all.Given as goal

abbrev pub invariant-loop-at : goal.invariant-loop-at
invariant-loop-at g l =
    let w = g.W.Wire in
    record {
      within : l.at ≤ length l.piece;
      room : length l.bytes ≡ length l.piece;
      same : take l.at l.bytes ≡ take l.at l.piece;
      moved : Moves (w.state l.initial.wire) (w.state l.wire) [] (take l.at l.bytes);
    }

abbrev pub decreases-loop-at : goal.decreases-loop-at
decreases-loop-at g l = length l.piece - l.at
