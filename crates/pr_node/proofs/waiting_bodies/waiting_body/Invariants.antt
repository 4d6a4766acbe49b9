use Rattle.std.proofs.Common.{◌≡◌, ℕ, List, length}
use Rattle.pr_inval.specs.Standing.{means}
use Rattle.pr_story.specs.declared.entry.Entry.{Entry}
use Rattle.pr_node.specs.Scanning.{AreWaiting, HasPassed}
use Rattle.pr_node.specs.Ties.{IsTied}
use Rattle.pr_node.proofs.waiting_bodies.waiting_body.Given as goal

-- what was passed, still is; and those that wait are the stream's
abbrev pub invariant-loop-name : goal.invariant-loop-name
invariant-loop-name l =
    ((n : ℕ) (j : List Entry) → IsTied n j l.stores → HasPassed l.initial.scan (means l.session).standing j → HasPassed l.scan (means l.session).standing j)
    × AreWaiting l.scan (means l.session).standing × (l.scan.looked ≡ l.initial.scan.looked)

abbrev pub decreases-loop-name : goal.decreases-loop-name
decreases-loop-name l = length l.scan.waiting
