use Rattle.std.proofs.Common.{◌≡◌, ◌≤◌, ◌<◌, ◌+◌, ◌-◌, ◌^◌, drop, length}
use Rattle.pr_wires.specs.Bends.{put_in}
use Rattle.pr_wires.proofs.bent_wire.BentWire.put_in.Given as goal

-- what is put, and then the rest, is all
abbrev pub invariant-loop-byte : goal.invariant-loop-byte
invariant-loop-byte l =
    (put_in l.self (drop l.byte-index l.bytes) ≡ put_in l.initial.self l.bytes)
    × (l.self.put < 2 ^ 64) × (l.self.under + (length l.bytes - l.byte-index) ≤ 4096)
