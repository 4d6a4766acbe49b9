use Rattle.std.proofs.Common.{◌-◌, length}
use Rattle.pr_keep.specs.Calls.{IsUntouched}
use Rattle.pr_keep.proofs.Causes.{HasAnsweredSo}
use Rattle.pr_keep.proofs.KeepLemmas.{IsFront}
use Rattle.pr_keep.proofs.keep.read_records.Given as goal

abbrev pub invariant-loop-entries : goal.invariant-loop-entries
invariant-loop-entries g l =
    IsFront (g.D.Disk.state l.fn.disk).reads l.entries l.at
    × IsUntouched g.D.Disk.state g.D.Disk.images g.D.Disk.moment g.D.Disk.images_since l.fn.disk l.disk
    × HasAnsweredSo (g.D.Disk.state l.fn.disk) (g.D.Disk.state l.disk)

abbrev pub decreases-loop-entries : goal.decreases-loop-entries
decreases-loop-entries g l = length (g.D.Disk.state l.fn.disk).reads - l.at
