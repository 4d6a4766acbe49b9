use Rattle.std.proofs.Common.{◌≡◌, ◌-◌, ◌≤◌, ◌<◌, ℕ}
use Rattle.pr_vectors.specs.Vector.{clock_of}
use Rattle.pr_wire.specs.Reading.{entries_at}
use Rattle.pr_wire.proofs.reading.cursor.Cursor.entries.Given as goal

abbrev pub invariant-loop : goal.invariant-loop
invariant-loop l = record {
  all : entries_at (l.count - l.counter) l.next l.fn.vector l.vector l.self.rest.now ≡ entries_at l.count 0 l.fn.vector l.fn.vector l.fn.self.rest.now;
  later : (n : ℕ) → l.next ≤ n → n < 32 → clock_of l.vector n ≡ clock_of l.fn.vector n;
}
