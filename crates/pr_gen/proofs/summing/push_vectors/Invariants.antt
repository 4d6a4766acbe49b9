use Rattle.std.specs.List.{flat_map, range_with_len}
use Rattle.std.specs.Prelude.{List, ◌≡◌, ◌++◌}
use Rattle.pr_merge.specs.Holding.{HasHistory}
use Rattle.pr_story.specs.History.{NodeEntry}
use Rattle.pr_gen.specs.Summary.{vector_line}
use Rattle.pr_gen.proofs.summing.push_vectors.Given as goal

-- the lines of the nodes before this one are written
abbrev pub invariant-loop-node : goal.invariant-loop-node
invariant-loop-node g l =
    (h : List NodeEntry) → HasHistory g.H.Node.Journaled.journal h (g.H.Held.state l.held)
    → l.out ≡ l.initial.out ++ flat_map (vector_line l.decls.list h) (range_with_len 0 l.node)
