use Rattle.std.specs.Prelude.{ℕ, List, ◌≡◌, ◌<◌, ◌≤◌, get_or, length, reverse, take}
use Rattle.pr_merge.specs.Holding.{HasHistory}
use Rattle.pr_story.specs.History.{NodeEntry}
use Rattle.pr_gen.specs.Summary.{count_of, words}
use Rattle.pr_gen.specs.declared.counted.Counted.TheVariants.{Writes}
use Rattle.pr_gen.proofs.summing.tally.Given as goal

-- the entries so far are counted
abbrev pub invariant-loop-at : goal.invariant-loop-at
invariant-loop-at g l =
    let H = g.H.Held in
    (h : List NodeEntry) → HasHistory g.H.Node.Journaled.journal h (H.state l.held) → (i : ℕ) → i < 16
    → (get_or l.counts i 0 ≡ count_of (reverse (take l.at (reverse h))) (get_or words i Writes)) × (get_or l.counts i 0 ≤ l.at)
