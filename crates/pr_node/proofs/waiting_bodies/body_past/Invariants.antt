use Rattle.std.proofs.Common.{◌≡◌, ℕ, List, [], filter, length}
use Rattle.pr_inval.specs.Standing.{means}
use Rattle.pr_marks.specs.Table.{is_after, names_of}
use Rattle.pr_story.specs.declared.entry.Entry.{Entry}
use Rattle.pr_node.specs.Scanning.{HasPassed}
use Rattle.pr_node.specs.Ties.{IsTied}
use Rattle.pr_node.proofs.waiting_bodies.body_past.Given as goal

-- what was passed, still is, and no name waits
abbrev pub invariant-loop-name : goal.invariant-loop-name
invariant-loop-name l =
    ((n : ℕ) (j : List Entry) → IsTied n j l.stores → HasPassed l.initial.scan (means l.session).standing j → HasPassed l.scan (means l.session).standing j)
    × (l.scan.waiting ≡ []) × (l.scan.looked ≡ l.initial.scan.looked)

abbrev pub decreases-loop-name : goal.decreases-loop-name
decreases-loop-name l = length (filter (is_after l.scan.last) (names_of l.stores.marks))
