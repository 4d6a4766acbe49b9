use Rattle.std.proofs.Common.{◌≡◌, find, filter, length}
use Rattle.pr_marks.specs.Table.{is_after, names_of}
use Rattle.pr_snap.proofs.KnownNames.{is_next}
use Rattle.pr_snap.proofs.known_names.next_known_in.Given as goal

-- what is found past the last name is what is found past the first one
abbrev pub invariant-loop-name : goal.invariant-loop-name
invariant-loop-name l = find (is_next l.above l.names) (names_of l.marks) ≡ find (is_next l.last l.names) (names_of l.marks)

abbrev pub decreases-loop-name : goal.decreases-loop-name
decreases-loop-name l = length (filter (is_after l.last) (names_of l.marks))
