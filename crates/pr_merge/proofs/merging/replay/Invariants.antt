use Rattle.std.proofs.Common.{◌≡◌, ◌<◌, length}
use Rattle.pr_merge.specs.Heads.{IsPlayedBut, IsUnder}
use Rattle.pr_merge.proofs.merging.replay.Given as goal

abbrev pub invariant-loop-node : goal.invariant-loop-node
invariant-loop-node l = record {
  inner : l.node < 32;
  under : IsUnder l.node l.part;
  played : IsPlayedBut l.parts l.next l.winners l.node l.part;
  len : length l.winners ≡ 64;
}

abbrev pub decreases-loop-node : goal.decreases-loop-node
decreases-loop-node l = l.node
