use Rattle.std.proofs.Common.{◌≤◌, ℕ, List, vec_capacity}
use Rattle.pr_story.specs.Counts.{Declared}
use Rattle.pr_story.specs.History.{NodeEntry}
use Rattle.pr_crew.proofs.Opening.{IsOpening}
use Rattle.pr_crew.proofs.sites.Sites.open.Given as goal

-- the first nodes are in their cells, and there is room for the others
abbrev pub invariant-loop-node : goal.invariant-loop-node
invariant-loop-node g l =
    IsOpening l.callers (g.H.Held.state l.fn.held) (g.H.Held.state l.held) l.node l.sites
    × (l.node ≤ l.count) × (l.count ≤ vec_capacity l.sites.cells) × (l.count ≤ vec_capacity l.sites.roots)
    × ((d : Declared) (h : List NodeEntry) → g.H.Held.records l.fn.held d h → g.H.Held.records l.held d h)
    × ((n : ℕ) → g.H.Held.has_room l.fn.held n → g.H.Held.has_room l.held n)
