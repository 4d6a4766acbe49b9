use Rattle.std.proofs.Common.{◌≡◌, ◌+◌, ◌-◌, ◌*◌, ◌≤◌, ◌++◌, length}
use Rattle.std.specs.Prelude.{flat_map}
use Rattle.pr_wire.specs.Spelling.{above, entry_text}
use Rattle.pr_wire.proofs.writing.vectors.put_above.Given as goal

abbrev pub invariant-loop-node : goal.invariant-loop-node
invariant-loop-node g l = record {
  all : l.chunk.items ++ flat_map entry_text (above (g.V.Clocked.clocks l.from) (g.V.Clocked.clocks l.to) l.start (32 - l.start)) ≡ l.fn.chunk.items ++ flat_map entry_text (above (g.V.Clocked.clocks l.from) (g.V.Clocked.clocks l.to) 0 32);
  count : l.count + length (above (g.V.Clocked.clocks l.from) (g.V.Clocked.clocks l.to) l.start (32 - l.start)) ≡ length (above (g.V.Clocked.clocks l.from) (g.V.Clocked.clocks l.to) 0 32);
  few : l.count ≤ l.start;
  most : l.start ≤ 32;
  size : length l.chunk.items ≤ length l.fn.chunk.items + 9 * l.start;
  grows : length l.fn.chunk.items ≤ length l.chunk.items;
}

abbrev pub decreases-loop-node : goal.decreases-loop-node
decreases-loop-node g l = 32 - l.start
