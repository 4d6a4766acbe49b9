use Rattle.std.specs.Prelude.{◌≡◌, ◌++◌, ◌-◌, List, length, reverse, take}
use Rattle.pr_merge.specs.Holding.{AddsPlaces}
use Rattle.pr_story.specs.Counts.{Declared}
use Rattle.pr_story.specs.History.{NodeEntry}
use Rattle.pr_sim.specs.Holding.{HasRoomFor, KeepsRecords, held_of, journal_of}
use Rattle.pr_sim.proofs.holding.EngineHeld.append.Given as goal

-- the entries of the places so far came into the history
abbrev pub invariant-loop-place : goal.invariant-loop-place
invariant-loop-place l = record {
  nodes : l.self.nodes ≡ l.fn.self.nodes;
  sessions : l.self.sessions ≡ l.fn.self.sessions;
  clients : length l.self.homes.items ≡ length l.fn.self.homes.items;
  history : l.self.history.items ≡ l.fn.self.history.items ++ take l.place-index l.places;
  room : HasRoomFor l.self (length l.places - l.place-index);
  records : (d : Declared) (h new : List NodeEntry) → AddsPlaces journal_of d h new (held_of l.fn.self) l.places → KeepsRecords d h l.fn.self
      → KeepsRecords d (reverse (take l.place-index (reverse new)) ++ h) l.self;
}
