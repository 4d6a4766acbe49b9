use Rattle.std.proofs.Common.{ℕ, List, length, vec_len}
use Rattle.pr_story.specs.Counts.{Declared}
use Rattle.pr_story.specs.History.{NodeEntry}
use Rattle.pr_crew.specs.Sites.{IsBeside}
use Rattle.pr_crew.proofs.Closing.{HasClosed, IsFront}
use Rattle.pr_crew.proofs.sites.Sites.close.Given as goal

-- the first cells are still here, and the nodes of the others were given back
abbrev pub invariant-loop-cell : goal.invariant-loop-cell
invariant-loop-cell g l =
    IsFront l.fn.self l.self
    × HasClosed l.fn.self (length l.self.cells.items) (g.H.Held.state l.fn.held).nodes (g.H.Held.state l.held).nodes
    × IsBeside (g.H.Held.state l.fn.held) (g.H.Held.state l.held)
    × ((d : Declared) (h : List NodeEntry) → g.H.Held.records l.fn.held d h → g.H.Held.records l.held d h)
    × ((n : ℕ) → g.H.Held.has_room l.fn.held n → g.H.Held.has_room l.held n)

abbrev pub decreases-loop-cell : goal.decreases-loop-cell
decreases-loop-cell g l = vec_len l.self.cells
