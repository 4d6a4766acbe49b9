use Rattle.std.proofs.Common.{◌≡◌, length}
use Rattle.std.specs.Prelude.{All}
use Rattle.pr_stamps.specs.Point.{IsStamp}
use Rattle.pr_story.specs.Counts.{HasMark}
use Rattle.pr_story.specs.Ranges.{IsStampOrNone}
use Rattle.pr_text.specs.Numbers.{nodes_of}
use Rattle.pr_check.specs.Fields.{items_of, parts, read_each, with_next}
use Rattle.pr_check.specs.Parts.{mark_read}
use Rattle.pr_check.proofs.row.marks.Given as goal

abbrev pub invariant-loop-rest : goal.invariant-loop-rest
invariant-loop-rest l = record {
  read : read_each (with_next (mark_read l.decls)) l.marks (parts 59 l.rest) ≡ items_of (mark_read l.decls) (parts 59 l.fn.bytes);
  range : All (λ m. IsStamp m.stamp × IsStampOrNone m.prev) l.marks;
  declared : All (HasMark (nodes_of l.decls)) l.marks;
}

abbrev pub decreases-loop-rest : goal.decreases-loop-rest
decreases-loop-rest l = length l.rest
