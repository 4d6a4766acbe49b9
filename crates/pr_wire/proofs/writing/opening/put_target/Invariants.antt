use Rattle.std.proofs.Common.{◌≡◌, ◌≤◌, ◌++◌, length}
use Rattle.std.specs.Prelude.{flat_map, max}
use Rattle.pr_wire.specs.Spelling.{span_text}
use Rattle.pr_wire.proofs.writing.opening.put_target.Given as goal

abbrev pub invariant-loop-left : goal.invariant-loop-left
invariant-loop-left l = record {
  all : l.chunk.items ++ flat_map span_text l.left ≡ l.fn.chunk.items ++ flat_map span_text l.parts;
  grows : length l.fn.chunk.items ≤ length l.chunk.items;
  size : length l.chunk.items ≤ max (length l.fn.chunk.items) 663;
}

abbrev pub decreases-loop-left : goal.decreases-loop-left
decreases-loop-left l = length l.left
