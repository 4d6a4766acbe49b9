use Rattle.std.proofs.Common.{◌≡◌, ◌≤◌, ◌+◌, [], length}
use Rattle.std.specs.Prelude.{All}
use Rattle.pr_names.specs.Span.{IsSpan}
use Rattle.pr_sets.specs.Text.{items, items_read}
use Rattle.pr_sets.proofs.read.read_items.Given as goal

abbrev pub invariant-loop-at : goal.invariant-loop-at
invariant-loop-at l = record {
  told : items_read (items l.rest) l.index l.parts.items ≡ items_read (items l.bytes) 0 [];
  spans : All IsSpan l.parts.items;
  room : l.index + length l.rest ≤ length l.bytes;
}

abbrev pub decreases-loop-at : goal.decreases-loop-at
decreases-loop-at l = length l.rest
