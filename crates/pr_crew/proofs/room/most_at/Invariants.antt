use Rattle.std.proofs.Common.{◌≡◌, ◌≤◌, ◌*◌, sum_by, take}
use Rattle.pr_crew.specs.Works.{most_at}
use Rattle.pr_crew.proofs.room.most_at.Given as goal

abbrev pub invariant-loop-work : goal.invariant-loop-work
invariant-loop-work l = record {
  most : l.most ≡ sum_by (most_at l.node) (take l.work-index l.works);
  few : l.most ≤ l.work-index * 2000001;
}
