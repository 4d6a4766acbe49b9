use Rattle.std.specs.Prelude.{◌≡◌, ◌++◌, take}
use Rattle.pr_story.specs.Sending.{row_names}
use Rattle.pr_story.proofs.plain.names.add_rows.Given as goal

abbrev pub invariant-loop-row : goal.invariant-loop-row
invariant-loop-row l = l.names ≡ l.initial.names ++ row_names (take l.row-index l.rows)
