use Rattle.std.proofs.Common.{◌≡◌, ◌≤◌, ◌<◌, ◌+◌, ◌^◌, ℕ, List, get_or, length, vec_capacity}
use Rattle.pr_story.specs.declared.entry.Entry.{Entry}
use Rattle.pr_story.specs.History.{NodeEntry}
use Rattle.pr_crew.specs.Assembly.{parts_of}
use Rattle.pr_crew.specs.Rooms.{HasMadeSince}
use Rattle.pr_crew.proofs.room.fill.Given as goal

abbrev pub invariant-loop-node : goal.invariant-loop-node
invariant-loop-node g l = record {
  few : l.node ≤ length l.opened;
  long : length l.parts.items ≡ l.node;
  room : length l.opened ≤ vec_capacity l.parts;
  many : length l.times.items ≡ length l.opened;
  later : (n : ℕ) (any : _) → l.node ≤ n → get_or l.times.items n any ≡ get_or l.initial.times.items n any;
  parts : (h : List NodeEntry) (nodes : ℕ → List Entry) → ((n : ℕ) → n < length l.opened → HasMadeSince h nodes l.opened n (g.H.Held.state l.held)) → l.parts.items ≡ parts_of nodes l.node;
  fits : (h : List NodeEntry) (nodes : ℕ → List Entry) → ((n : ℕ) → n < length l.opened → HasMadeSince h nodes l.opened n (g.H.Held.state l.held)) → (n : ℕ) → n < l.node → get_or l.opened n 0 + length (nodes n) < 2 ^ 64;
}
