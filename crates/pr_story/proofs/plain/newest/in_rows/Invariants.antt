use Rattle.std.specs.Prelude.{take}
use Rattle.pr_story.specs.Search.{IsNewestRow}
use Rattle.pr_story.proofs.plain.newest.in_rows.Given as goal

abbrev pub invariant-loop-row : goal.invariant-loop-row
invariant-loop-row l = IsNewestRow (take l.row-index l.rows) l.name l.newest
