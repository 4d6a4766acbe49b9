use Rattle.std.proofs.Common.{◌≡◌, ◌≤◌, length, reverse, take}
use Rattle.pr_story.specs.Lawful.{is_after_gap}
use Rattle.pr_sim.proofs.downs.is_after_gap.Given as goal

abbrev pub invariant-loop-left : goal.invariant-loop-left
invariant-loop-left l = (l.left ≤ length l.journal.items) × (is_after_gap (reverse (take l.left l.journal.items)) l.stream ≡ is_after_gap (reverse l.journal.items) l.stream)

abbrev pub decreases-loop-left : goal.decreases-loop-left
decreases-loop-left l = l.left
