use Rattle.std.proofs.Common.{◌≡◌, ◌≤◌, ◌+◌, length}
use Rattle.std.specs.Io.KnownBytes.{Consumes}
use Rattle.pr_draw.proofs.reading.read_bytes.Given as goal

abbrev pub invariant-loop-len : goal.invariant-loop-len
invariant-loop-len g l = record {
  rises : g.S.Source.faults l.initial.source ≤ g.S.Source.faults l.source;
  size : l.room + length l.text ≡ 67108864;
  held : Consumes (g.S.Source.left l.initial.source) (g.S.Source.left l.source) l.text;
}

abbrev pub decreases-loop-len : goal.decreases-loop-len
decreases-loop-len g l = l.room
