use Rattle.std.proofs.Common.{◌≡◌, ◌-◌, ◌+◌, ◌^◌, ◌<◌, ◌≤◌, length, take, drop}
use Rattle.pr_keep.specs.Calls.{IsUntouched}
use Rattle.pr_keep.proofs.Causes.{HasAnsweredSo}
use Rattle.pr_keep.proofs.records.read_some.Given as goal

abbrev pub invariant-loop-bytes : goal.invariant-loop-bytes
invariant-loop-bytes g l =
    (l.bytes ≡ take (length l.bytes) (drop l.at (g.D.Disk.state l.fn.disk).reads))
    × (l.at + length l.bytes ≤ length (g.D.Disk.state l.fn.disk).reads)
    × (l.at + length l.bytes < 2 ^ 64)
    × (length l.bytes ≤ l.len)
    × IsUntouched g.D.Disk.state g.D.Disk.images g.D.Disk.moment g.D.Disk.images_since l.fn.disk l.disk
    × HasAnsweredSo (g.D.Disk.state l.fn.disk) (g.D.Disk.state l.disk)

abbrev pub decreases-loop-bytes : goal.decreases-loop-bytes
decreases-loop-bytes g l = l.len - length l.bytes
