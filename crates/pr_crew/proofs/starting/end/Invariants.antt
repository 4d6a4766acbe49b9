use Rattle.std.proofs.Common.{◌≡◌, ◌≤◌, ◌+◌, ℕ, List, drop, length, reverse}
use Rattle.std.specs.Prelude.{Option, map, sum_by}
use Rattle.pr_story.specs.Counts.{Declared}
use Rattle.pr_story.specs.History.{NodeEntry, Plan}
use Rattle.pr_crew.specs.Crossing.{AreClosed}
use Rattle.pr_crew.specs.Starting.{CanEnd, HaveEnded}
use Rattle.pr_crew.specs.Tasks.{first_of_two, first_stop, stop_of, wires_of}
use Rattle.pr_crew.proofs.starting.end.Given as goal

-- so many jobs have ended, and those that are left stand in the list, the next one last
abbrev pub invariant-loop-task : goal.invariant-loop-task
invariant-loop-task g l = (i : ℕ) × (l.tasks.items ≡ reverse (drop i l.fn.tasks.items)) × (i ≤ length l.fn.tasks.items)
    × ((plan : Plan) (h : List NodeEntry) (count : ℕ) (streams : ℕ → ℕ) → CanEnd plan h count streams (g.H.Held.state l.initial.held) l.initial.sites l.fn.tasks.items
    → HaveEnded plan h count streams (g.H.Held.state l.initial.held) (g.H.Held.state l.held) l.sites l.fn.tasks.items i)
    × (l.sites.cells ≡ l.initial.sites.cells)
    × (first_of_two l.stop (first_stop (map stop_of (drop i l.fn.tasks.items))) ≡ first_stop (map stop_of l.fn.tasks.items))
    × ((d : Declared) (h : List NodeEntry) → g.H.Held.records l.initial.held d h → g.H.Held.records l.held d h)
    × ((n : ℕ) → g.H.Held.has_room l.initial.held n → g.H.Held.has_room l.held n)
    × (g.W.Wires.out l.wires + sum_by wires_of l.fn.tasks.items ≡ g.W.Wires.out l.initial.wires + sum_by wires_of (drop i l.fn.tasks.items))
    × (g.W.Wires.made l.wires ≡ g.W.Wires.made l.initial.wires) × (g.W.Wires.sound l.wires ≡ g.W.Wires.sound l.initial.wires) × (g.W.Wires.faults l.wires ≡ g.W.Wires.faults l.initial.wires)
    × ((now : Option (List (List ℕ))) → AreClosed g.W.Wire.Wire.state (drop i l.fn.tasks.items) (g.W.Wires.carried l.wires) now
    → AreClosed g.W.Wire.Wire.state l.fn.tasks.items (g.W.Wires.carried l.initial.wires) now)

abbrev pub decreases-loop-task : goal.decreases-loop-task
decreases-loop-task g l = goal.left-loop-task g l
