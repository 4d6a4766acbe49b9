use Rattle.std.proofs.Common.{◌≡◌, length}
use Rattle.std.specs.Prelude.{reverse}
use Rattle.pr_keep.specs.Memory.{IsMade, synced_changes}
use Rattle.pr_keep.proofs.change.undo_all.Given as goal

abbrev pub invariant-loop-changes : goal.invariant-loop-changes
invariant-loop-changes l =
    IsMade l.bytes.items (reverse l.changes.items) × (synced_changes (reverse l.changes.items) ≡ synced_changes (reverse l.initial.changes.items))

abbrev pub decreases-loop-changes : goal.decreases-loop-changes
decreases-loop-changes l = length l.changes.items
