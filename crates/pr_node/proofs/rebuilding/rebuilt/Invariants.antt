use Rattle.std.specs.Prelude.{◌≡◌, reverse, take}
use Rattle.pr_node.specs.Ties.{IsTied}
use Rattle.pr_node.proofs.rebuilding.rebuilt.Given as goal

-- the stores are those after the entries before this place
abbrev pub invariant-loop-place : goal.invariant-loop-place
invariant-loop-place l = record {
  tied : IsTied l.fn.id (reverse (take l.place l.fn.journal.items)) l.stores;
  sets : l.stores.gaps.sets ≡ l.fn.sets;
}
