use Rattle.std.proofs.Common.{ℕ, ◌<◌, ◌≤◌, ◌+◌}
use Rattle.pr_log.specs.Known.{uncovered}
use Rattle.pr_log.specs.Waiting.{AreListed, head_of}
use Rattle.pr_log.proofs.Merge.{IsHead, left}
use Rattle.pr_log.proofs.waiting.next_write.Given as goal

abbrev pub invariant-loop-write : goal.invariant-loop-write
invariant-loop-write g l = record {
  listed : AreListed l.heads l.nodes.at l.nodes.count 32;
  each : (n : ℕ) → n < 32 → IsHead l.index l.pos l.sub n (head_of l.heads n);
  few : l.steps + left l.index l.heads ≤ l.fn.steps + uncovered l.index l.pos + 32;
}

abbrev pub decreases-loop-write : goal.decreases-loop-write
decreases-loop-write g l = left l.index l.heads
