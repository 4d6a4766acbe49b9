use Rattle.std.proofs.Common.{ℕ, List, ◌≤◌, drop, length, reverse}
use Rattle.std.specs.Prelude.{◌↔◌, IsTrue}
use Rattle.pr_names.specs.Name.{IsName}
use Rattle.pr_sets.specs.Spans.{has}
use Rattle.pr_story.specs.Told.{IsPrecise}
use Rattle.pr_sets.specs.Sets.{first_with, rest_of}
use Rattle.pr_story.proofs.plain.snapshots.precise_names.Given as goal

abbrev pub invariant-loop-left : goal.invariant-loop-left
invariant-loop-left l =
    (l.left ≤ length l.sets)
    × ((o : List ℕ) → IsName o → IsTrue (has l.names o) ↔ IsPrecise l.node (reverse l.entries) (first_with (drop l.left l.sets) (rest_of l.sets) o))

abbrev pub decreases-loop-left : goal.decreases-loop-left
decreases-loop-left l = l.left
