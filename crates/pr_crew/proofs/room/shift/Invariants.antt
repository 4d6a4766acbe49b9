use Rattle.std.proofs.Common.{◌≡◌, ◌≤◌, ◌+◌, ℕ, get_or, length, map, take}
use Rattle.pr_crew.proofs.room.shift.Given as goal

abbrev pub invariant-loop-place : goal.invariant-loop-place
invariant-loop-place l = record {
  places : l.places.items ≡ map (λ (p : ℕ × ℕ). (p.0, get_or l.opened p.0 0 + p.1)) (take l.place-index l.merged);
  room : length l.merged ≤ l.places.room + l.place-index;
}
