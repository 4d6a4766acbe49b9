use Rattle.std.proofs.Common.{◌≡◌, ◌++◌, length, filter}
use Rattle.pr_marks.specs.Table.{is_after, names_of}
use Rattle.pr_snap.specs.Build.{rows_at}
use Rattle.pr_snap.proofs.building.rows.Given as goal

-- the rows so far, and those of the names that come after the last one, are all rows
abbrev pub invariant-loop-name : goal.invariant-loop-name
invariant-loop-name l = l.rows ++ rows_at l.marks l.target (filter (is_after l.last) (names_of l.marks)) ≡ rows_at l.marks l.target (names_of l.marks)

abbrev pub decreases-loop-name : goal.decreases-loop-name
decreases-loop-name l = length (filter (is_after l.last) (names_of l.marks))
