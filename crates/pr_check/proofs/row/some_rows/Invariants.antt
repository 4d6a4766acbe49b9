use Rattle.std.proofs.Common.{◌≡◌, length}
use Rattle.std.specs.Prelude.{All}
use Rattle.pr_story.specs.Counts.{HasRow}
use Rattle.pr_story.specs.Ranges.{IsRow}
use Rattle.pr_text.specs.Numbers.{nodes_of}
use Rattle.pr_check.specs.Fields.{items_of, parts, read_each, with_next}
use Rattle.pr_check.specs.Parts.{row_read}
use Rattle.pr_check.proofs.row.some_rows.Given as goal

abbrev pub invariant-loop-rest : goal.invariant-loop-rest
invariant-loop-rest l = record {
  read : read_each (with_next (row_read l.decls)) l.rows (parts 44 l.rest) ≡ items_of (row_read l.decls) (parts 44 l.fn.bytes);
  range : All IsRow l.rows;
  declared : All (HasRow (nodes_of l.decls)) l.rows;
}

abbrev pub decreases-loop-rest : goal.decreases-loop-rest
decreases-loop-rest l = length l.rest
