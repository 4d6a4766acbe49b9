use Rattle.std.specs.Prelude.{ℕ, ◌≡◌, ◌<◌, ◌≤◌, get_or, length}
use Rattle.pr_stamps.specs.Kept.{Kept}
use Rattle.pr_sim.proofs.holding.reserve_each.Given as goal

-- the streams before this one have room
abbrev pub invariant-loop-stream : goal.invariant-loop-stream
invariant-loop-stream l = record {
  room : (s : ℕ) (d : Kept ℕ) → s < l.stream → l.more ≤ (get_or l.sent.items s d).room;
  many : length l.sent.items ≡ length l.initial.sent.items;
  items : (s : ℕ) (d : Kept ℕ) → (get_or l.sent.items s d).items ≡ (get_or l.initial.sent.items s d).items;
}
