use Rattle.std.proofs.Common.{◌≡◌, ◌≤◌, drop, length, map, take, vec_capacity}
use Rattle.pr_story.specs.declared.entry.Entry.{Entry}
use Rattle.pr_crew.proofs.room.times_behind.Given as goal

abbrev pub invariant-loop-at : goal.invariant-loop-at
invariant-loop-at l = record {
  times : l.times.items ≡ map (λ (e : Entry). e.time) (take l.at (drop l.opened l.journal.items));
  room : length (drop l.opened l.journal.items) ≤ vec_capacity l.times;
}
