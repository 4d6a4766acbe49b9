use Rattle.std.proofs.Common.{◌≡◌, ◌≤◌, ◌+◌, length}
use Rattle.std.specs.Prelude.{sum_by}
use Rattle.pr_merge.specs.Heads.{IsPlayedAbove}
use Rattle.pr_merge.proofs.Times.{left}
use Rattle.pr_merge.proofs.Turns.{IsTaken}
use Rattle.pr_merge.proofs.merging.merge.Given as goal

abbrev pub invariant-loop-part : goal.invariant-loop-part
invariant-loop-part l = record {
  taken : IsTaken l.parts l.next l.out.items;
  played : IsPlayedAbove l.parts l.next l.winners 0;
  len : length l.next ≡ 32;
  count : length l.out.items + left l.parts l.next ≡ sum_by length l.parts;
  room : left l.parts l.next ≤ l.out.room;
}

abbrev pub decreases-loop-part : goal.decreases-loop-part
decreases-loop-part l = left l.parts l.next
