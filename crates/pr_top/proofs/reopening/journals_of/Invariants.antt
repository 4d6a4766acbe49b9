use Rattle.std.proofs.Common.{◌≡◌, length}
use Rattle.pr_top.proofs.Journals.{HaveTaken}
use Rattle.pr_top.proofs.reopening.journals_of.Given as goal

-- each journal has what was dealt out so far
abbrev pub invariant-loop-node : goal.invariant-loop-node
invariant-loop-node l = record {
  can_next : (goal.iterator-loop-node).can_next l.node-iterator;
  is_finite : (goal.iterator-loop-node).is_finite l.node-iterator;
  many : length l.journals.items ≡ l.nodes;
  taken : HaveTaken l.journals.items l.yielded;
}
